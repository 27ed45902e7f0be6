-- Words that write no place.
use Rattle.std.proofs.Common.{◌≡◌, ℕ, List, ap, inl, inr, arith}
use Rattle.std.proofs.NetLemmas.Theorems.{IsSocketText_unique}
use Rattle.std.specs.{Net.Grammar.IsSocketText, Net.Socket.socket_port}
use Rattle.std.specs.declared.net.socket_addr.SocketAddr.{SocketAddr}
use Rattle.distmapd.specs.Words.{IsPlace, IsPort}

-- an address with the port 0
pub no_place : (word : List ℕ) (found : SocketAddr) → ¬ (IsPort word) → IsSocketText word found → socket_port found ≡ 0 → (place : SocketAddr) → ¬ (IsPlace word place)
no_place word found none spelled zero place (inl here) = none here.0
no_place word found none spelled zero place (inr there) =
    let same = ap socket_port (IsSocketText_unique word place found there.0 spelled) in
    absurd (omega (arith, there.1, zero, same))
