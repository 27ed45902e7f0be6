-- What is sent consists of whole frames.
use Rattle.std.proofs.Common.{map, bit_or, flat_map, ◌≡◌, ℕ, ◌^◌, ◌<◌, List, [], ◌∷◌, ◌++◌, sym, refl, ap, ◌∙◌, append-nil, arith, w16}
use Rattle.std.proofs.lemmas.Nat.{and_le_r}
use Rattle.std.specs.List.{AllByRecursion}
use Rattle.dist_frames.specs.Stream.{body_frame, FitsWidth, Splits}
use Rattle.dist_messages.specs.{Canonical.canonical, declared.message.Message.Message, declared.message.Side.Side}
use Rattle.dist_core_setup.specs.{Rules.announced_in, Rules.announced_by, Saying.CanBeSaid, Saying.frame_of, Saying.frames_of_messages}
use Rattle.dist_core_setup.specs.declared.{setup.Setup.Setup, version.Version.Version}
use Rattle.dist_core_setup.specs.declared.version.Version.TheVariants as version

joined : (ms : List Message) → frames_of_messages ms ≡ flat_map (body_frame w16) (map canonical ms)
unfolding frame_of
joined [] = refl
joined (m ∷ []) = sym (append-nil (body_frame w16 (canonical m)))
joined (m ∷ k ∷ ms) = ap (λ (rest : List ℕ). body_frame w16 (canonical m) ++ rest) (joined (k ∷ ms))

all-fit : (side : Side) (ms : List Message) → AllByRecursion (CanBeSaid side) ms → AllByRecursion (FitsWidth w16) (map canonical ms)
all-fit side [] h = tt
all-fit side (m ∷ ms) h = (let g = h.0 in g.1, all-fit side ms h.1)

nothing_framed : (body more : List ℕ) → FitsWidth w16 body → [] ≡ body_frame w16 body ++ more → ⊥
nothing_framed body more fits e = cc

pub whole : (side : Side) (ms : List Message) → AllByRecursion (CanBeSaid side) ms → Splits w16 (frames_of_messages ms) (map canonical ms) []
whole side ms h = record { whole = joined ms ∙ sym (append-nil (flat_map (body_frame w16) (map canonical ms))); fit = all-fit side ms h; no_more = nothing_framed }

in-fits : (v : Version) (flags : ℕ) → announced_in v flags < 2 ^ 64
in-fits version.Six flags = omega (arith, and_le_r (bit_or flags 16777216) 18446744065119617023)
in-fits version.Five flags = omega (arith, and_le_r flags 4278190079)

pub announced-fits : (s : Setup) → announced_by s < 2 ^ 64
unfolding announced_by
announced-fits s = in-fits s.version s.flags.0
