use Rattle.std.proofs.Common.{ℕ, Bool, Option, Some, refl, inl, inr}
use Rattle.dist_stream.specs.declared.socket.SocketStream.{SocketStream}
use Rattle.dist_epmd_clients.specs.declared.holding.Clients.{Clients}
use Rattle.dist_epmd_server.specs.{declared.owing.Owing.Owing, Serving.ComesTo, Serving.TakesIn}
use Rattle.dist_epmd_server.proofs.server.Server.admit.Goals as goal

-- whom the system watches, or who is waited for by itself, stays
stays : (stream : SocketStream) (local : Bool) (now most : ℕ) (old new : Clients SocketStream) (owing left : Owing SocketStream) (taken : Option ℕ) → TakesIn stream local now most old new owing left taken → ComesTo now most old new owing left
stays stream local now most old new owing left taken takes = record { stream = stream; local = local; taken = taken; mid = new; takes = takes; watched = inl refl }

pub returns-in_default : goal.returns-in_default
returns-in_default c = stays _ _ _ _ _ _ _ _ _ c.take_in.ensures

pub returns-then-not-watch : goal.returns-then-not-watch
returns-then-not-watch c = record {
  stream = c.new-stream.result;
  local = c.is_local-local.result;
  taken = Some c.in-Some.conn;
  mid = c.take_in.new.clients;
  takes = c.in-Some.ensures;
  watched = inr c.close.ensures.after;
}

pub returns-else-not-watch : goal.returns-else-not-watch
returns-else-not-watch c = stays _ _ _ _ _ _ _ _ _ c.in-Some.ensures

pub returns-then-is_none : goal.returns-then-is_none
returns-then-is_none c = stays _ _ _ _ _ _ _ _ _ c.in-Some.ensures
