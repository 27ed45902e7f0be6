-- The place that a value of `-metrics` writes.
use Rattle.std.specs.Prelude.{◌≡◌, ◌⊎◌, ◌<◌, ◌≤◌, ℕ, List, [], ◌∷◌}
use Rattle.std.specs.{Net.Grammar.IsSocketText, Net.Socket.socket_ip, Net.Socket.socket_port, Str.Parse.IsNumeral, Str.Parse.digits_value}
use Rattle.std.specs.declared.net.socket_addr.SocketAddr.{SocketAddr}
use Rattle.std.specs.declared.net.ip_addr.IpAddr.TheVariants as Ip

-- a word is a port in decimal digits, not 0; leading zeros are allowed
abbrev pub IsPort : List ℕ → Type 0
IsPort word = IsNumeral 10 word × (0 < digits_value 10 word) × (digits_value 10 word ≤ 65535)

-- THE PLACE that a value of `-metrics` writes: a port of 127.0.0.1, or an IP address and a port that is not 0
abbrev pub IsPlace : List ℕ → SocketAddr → Type 0
IsPlace word place =
    (IsPort word × (digits_value 10 word ≡ socket_port place) × (socket_ip place ≡ Ip.V4 (record { octets = 127 ∷ 0 ∷ 0 ∷ 1 ∷ [] })))
    ⊎ (IsSocketText word place × (0 < socket_port place))
