-- The segments of a capture are taken as they are read.
use Rattle.std.proofs.Common.{◌≡◌, ℕ, Bool, List, [], ◌∷◌, ◌++◌, take, map, Option, Some, None, Ok, refl, sym, ap, subst, ◌∙◌, append-nil, append_assoc}
use Rattle.std.specs.Io.KnownBytes.{Consumes, IsAtEnd}
use Rattle.std.proofs.KnownBytes.{Consumes-trans, Consumes-whole}
use Rattle.dist_capture.specs.Reading.{Done, EndsAt, Next, Reading, Reads, Was, Opened, Fed, Asked, is_cut_off, unread, view_of, whole, with_bytes}
use Rattle.dist_capture.specs.{Tcp.Said, declared.segment.Segment.Segment}
use Rattle.dist_talk.specs.declared.terms.Terms.{Terms}
use Rattle.distping_report.specs.Sinks.{SinkState}
use Rattle.distping_capture.specs.Captures.{AreAll, EndsAll, EndsWith, FollowsAll, IsAt, ReadsIn, TakesIn, TakesInAll}
use Rattle.distping_capture.specs.Printing.{PrintsOutcome}
use Rattle.distping_capture.specs.declared.{connections.CapturedConnections.CapturedConnections, left_out.PacketsLeftOut.PacketsLeftOut}
use Rattle.distping_capture.proofs.Counting.{exit_is}

said_behind : (segments : List Segment) (s : Segment) → map view_of (segments ++ s ∷ []) ≡ map view_of segments ++ view_of s ∷ []
said_behind [] s = refl
said_behind (x ∷ xs) s = ap (λ (l : List (ℕ × Said)). view_of x ∷ l) (said_behind xs s)

-- it read on, and returned nothing
was_on : (r mid : Reading) (stream : List ℕ) (segments : List (ℕ × Said)) → Was r stream segments → Reads r [] mid → Was mid stream segments
was_on r mid stream segments was reads = subst (Was mid stream) (append-nil segments) (Asked r mid stream segments [] was reads)

module _ {W : Type 0} where
  pub took : (r mid later : Reading) (f e : CapturedConnections W) (s : Segment) → Reads r [] mid → EndsAt mid (Some (view_of s)) later → TakesInAll s f e → TakesIn r f later e
  took r mid later f e s reads gives takes t port json old stream p =
      let one : Reads mid (view_of s ∷ []) later = Next mid later later (Some (view_of s)) [] (view_of s ∷ []) gives (Done later) refl in
      let was = Asked mid later stream (map view_of p.segments) (view_of s ∷ []) (was_on r mid stream (map view_of p.segments) p.was reads) one in
      record {
        segments = p.segments ++ s ∷ [];
        was = subst (Was later stream) (sym (said_behind p.segments s)) was;
        follows = takes t port p.segments json old p.follows;
      }

  pub rests : (r mid later : Reading) (f : CapturedConnections W) → Reads r [] mid → EndsAt mid None later → TakesIn r f later f
  rests r mid later f reads ends t port json old stream p =
      let was : Was later stream (map view_of p.segments) = subst (λ (x : Reading). Was x stream (map view_of p.segments)) (sym ends.1) (was_on r mid stream (map view_of p.segments) p.was reads) in
      record { segments = p.segments; was = was; follows = p.follows }

  pub takes_then : (r s u : Reading) (f e k : CapturedConnections W) → TakesIn r f s e → TakesIn s e u k → TakesIn r f u k
  takes_then r s u f e k p q t port json old stream w = q t port json old stream (p t port json old stream w)

  -- all segments of the bytes that were read are taken, and then a piece is read
  pub reads_taken : (r s u : Reading) (f e k : CapturedConnections W) (bytes : List ℕ) → ReadsIn bytes r f s e → TakesIn s e u k → ReadsIn bytes r f u k
  reads_taken r s u f e k bytes p q t port json old stream w = q t port json old (stream ++ bytes) (p t port json old stream w)

  pub reads_fed : (r s fed : Reading) (f e : CapturedConnections W) (bytes piece : List ℕ) → ReadsIn bytes r f s e → fed ≡ with_bytes s piece → ReadsIn (bytes ++ piece) r f fed e
  reads_fed r s fed f e bytes piece p is t port json old stream w =
      let before = p t port json old stream w in
      let more : IsAt t port json old ((stream ++ bytes) ++ piece) (with_bytes s piece) e = record {
        segments = before.segments;
        was = Fed s (stream ++ bytes) (map view_of before.segments) piece before.was;
        follows = before.follows;
      } in
      subst (λ (l : List ℕ). IsAt t port json old l fed e) (append_assoc stream bytes piece) (subst (λ (x : Reading). IsAt t port json old ((stream ++ bytes) ++ piece) x e) (sym is) more)

  pub reads_none : (r : Reading) (f : CapturedConnections W) → ReadsIn [] r f r f
  reads_none r f t port json old stream p = subst (λ (l : List ℕ). IsAt t port json old l r f) (sym (append-nil stream)) p

  -- all of it was read, and all connections ended
  pub read_ends : (t : Terms) (port : ℕ) (json : Bool) (r s : Reading) (f e : CapturedConnections W) (bytes : List ℕ) (old new : SinkState) (status : ℕ) (left_out : PacketsLeftOut) → FollowsAll t port [] json old f → r ≡ unread
      → ReadsIn bytes r f s e → whole s ≡ Ok None → left_out.counts ≡ s.counts → left_out.is_cut_off ≡ is_cut_off s → EndsAll left_out status e new → EndsWith t port json bytes old new status
  read_ends t port json r s f e bytes old new status left_out follows new_ reads no_more counts cut (last, finishes, goes) =
      let begun : IsAt t port json old [] r f = record { segments = []; was = subst (λ (x : Reading). Was x [] []) (sym new_) Opened; follows = follows } in
      let all = reads t port json old [] begun in
      let keeps = goes t port all.segments json old all.follows in
      record {
        segments = all.segments;
        reading = s;
        was = all.was;
        no_more = no_more;
        attempts = keeps.attempts;
        history = keeps.history;
        found = last.has_found;
        nothing = keeps.stands.nothing;
        exit = finishes.exit ∙ exit_is last keeps.attempts keeps.stands;
        printed = last.results;
        verdicts = keeps.printed;
        left_out = left_out;
        counted = (counts, cut);
        outcome = subst (λ (b : Bool). PrintsOutcome b last.has_found left_out status last.results new) keeps.quiet finishes.outcome;
      }

-- a read that gives no byte shows that these were all
pub all_read : (a b c : Option (List ℕ)) (bytes room : List ℕ) (count : ℕ) → Consumes a b bytes → Consumes b c (take count room) → count ≡ 0 → IsAtEnd c → AreAll a bytes
all_read a b c bytes room count p q none end =
    let rest : Consumes b c [] = subst (λ (n : ℕ). Consumes b c (take n room)) none q in
    let last : Consumes a c bytes = subst (Consumes a c) (append-nil bytes) (Consumes-trans a b c bytes [] p rest) in
    Consumes-whole a c bytes (λ (all : List ℕ). bytes ≡ all) last end refl
