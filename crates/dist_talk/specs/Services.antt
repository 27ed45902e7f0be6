-- What may listen at a port instead of a node, by the first two bytes that it sends.
use Rattle.std.specs.Prelude.{ℕ, ◌||◌, ◌==◌, if◌then◌else◌}
use Rattle.dist_talk.specs.declared.service.Service.{Service}
use Rattle.dist_talk.specs.declared.service.Service.TheVariants as service

-- by these two bytes: a record of TLS; HT is 0x4854, SS is 0x5353
abbrev pub service_of : ℕ → Service
service_of front =
    if (front == 0x1403) || (front == 0x1503) || (front == 0x1603) || (front == 0x1703) then service.Tls else
    if front == 0x4854 then service.Http else
    if front == 0x5353 then service.Ssh else service.Other
