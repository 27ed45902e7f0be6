use Rattle.std.proofs.Common.{◌≡◌, true}
use Rattle.dist_epmd_server.proofs.places.take_in.Goals as goal

pub returns-in-Ok : goal.returns-in-Ok
returns-in-Ok g c = record {
  mid = c.find_place.new.clients;
  found = c.find_place.result;
  place = c.find_place.ensures;
  shut_out = λ e. (let yes : c.find_place.result ≡ true = c.if-not-find_place.false in absurd cc);
  comes = c.in-Ok.ensures.ok;
}
