-- What the journal has, and what was printed.
use Rattle.std.proofs.Common.{◌≡◌, ℕ, inl, inr, Bool, true, false, List, [], ◌∷◌, ◌++◌, Option, Some, None, IfSome, Result, Ok, Err, refl, sym, ap, subst, ◌∙◌, append_assoc, codes}
use Rattle.std.specs.Prelude.{OnOk}
use Rattle.std.specs.List.{AllZip, FoldsTo}
use Rattle.std.proofs.lemmas.{List.map-append, Fn.FoldsTo-push, List.Elements.All-nil, List.Elements.All-push, List.Elements.All-weaker}
use Rattle.dist_capture.specs.declared.segment.Segment.{Segment}
use Rattle.dist_talk.specs.declared.{terms.Terms.Terms, verdict.HandshakeVerdict.HandshakeVerdict}
use Rattle.dist_conversation.specs.Verdicts.{is_talk}
use Rattle.dist_conversation.specs.declared.{carried.Conclusion.Conclusion, conversation.Conversation.Conversation}
use Rattle.distping_report.specs.Sinks.{SinkState}
use Rattle.distping_capture.specs.Captures.{AddsOf, GoesOn, GoesOnBy, GoesOnOf, History, IsGiven, Keeps, NextAttempt, NoAttempt, PrintsAll, StandsFor, verdicts_of}
use Rattle.distping_capture.specs.Crossings.{GivesWay, GivesWayTo, Meets}
use Rattle.distping_capture.specs.Printing.{PrintsEnd, PrintsNoted, PrintsOne, PrintsText}
use Rattle.distping_capture.specs.declared.{dials.PastDial.PastDial, journal.CaptureJournal.CaptureJournal}
use Rattle.distping_capture.proofs.Talking.{given_more, judged_more}

pub on_ok : {X E P R : Type 0} (result : Result X E) → OnOk result P → (P → R) → OnOk result R
on_ok (Ok x) p f = f p
on_ok (Err fault) p f = tt

pub on_both : {X E P Q R : Type 0} (result : Result X E) → OnOk result P → OnOk result Q → (P → Q → R) → OnOk result R
on_both (Ok x) p q f = f p q
on_both (Err fault) p q f = tt

-- ---- verdicts that are printed

way_same : (by dial left : PastDial) → GivesWay by dial left → left.verdict ≡ dial.verdict
way_same by dial left (inl p) = ap (λ (d : PastDial). d.verdict) p.1
way_same by dial left (inr p) = ap (λ (d : PastDial). d.verdict) p.1

way_to_same : (others : List PastDial) (dial left : PastDial) → GivesWayTo others dial left → left.verdict ≡ dial.verdict
way_to_same others dial left (inl p) = ap (λ (d : PastDial). d.verdict) p.3
way_to_same others dial left (inr p) = ap (λ (d : PastDial). d.verdict) p.1

others_same : (by : PastDial) (xs ys : List PastDial) → AllZip (GivesWay by) xs ys → verdicts_of ys ≡ verdicts_of xs
others_same by [] [] p = refl
others_same by [] (y ∷ ys) p = absurd p
others_same by (x ∷ xs) [] p = absurd p
others_same by (x ∷ xs) (y ∷ ys) p = ap (λ (v : HandshakeVerdict). v ∷ verdicts_of ys) (way_same by x y p.0) ∙ ap (λ (l : List HandshakeVerdict). x.verdict ∷ l) (others_same by xs ys p.1)

-- the verdicts once an attempt was added
verdicts_more : (earlier before others : List PastDial) (attempt left : PastDial) → Meets attempt before left others
    → verdicts_of (earlier ++ (others ++ left ∷ [])) ≡ verdicts_of (earlier ++ before) ++ attempt.verdict ∷ []
verdicts_more earlier before others attempt left p =
    map-append (λ (a : PastDial). a.verdict) earlier (others ++ left ∷ [])
    ∙ ap (λ (l : List HandshakeVerdict). verdicts_of earlier ++ l) (map-append (λ (a : PastDial). a.verdict) others (left ∷ [])
    ∙ ap (λ (l : List HandshakeVerdict). l ++ left.verdict ∷ []) (others_same attempt before others p.before)
    ∙ ap (λ (v : HandshakeVerdict). verdicts_of before ++ v ∷ []) (way_to_same before attempt left p.itself))
    ∙ sym (append_assoc (verdicts_of earlier) (verdicts_of before) (attempt.verdict ∷ []))
    ∙ ap (λ (l : List HandshakeVerdict). l ++ attempt.verdict ∷ []) (sym (map-append (λ (a : PastDial). a.verdict) earlier before))

prints_on : (json talk : Bool) (t : Terms) (port : ℕ) (segments : List Segment) (xs ys : List PastDial) (v : HandshakeVerdict) (old a b : SinkState) → verdicts_of ys ≡ verdicts_of xs ++ v ∷ []
    → IsGiven t port segments v → PrintsAll json t port segments xs old a → PrintsNoted json talk v a b → PrintsAll json t port segments ys old b
prints_on false talk t port segments xs ys v old a b is given p q =
    subst (λ (l : List HandshakeVerdict). FoldsTo (λ (x : SinkState) (w : HandshakeVerdict) (y : SinkState). PrintsText w x y) old l b) (sym is)
    (FoldsTo-push (λ (x : SinkState) (w : HandshakeVerdict) (y : SinkState). PrintsText w x y) old (verdicts_of xs) a v b p q)
prints_on true true t port segments xs ys v old a b is given p q = (
  p.0 ++ v ∷ [],
  All-push (IsGiven t port segments) p.0 v p.1 given,
  FoldsTo-push (λ (x : SinkState) (w : HandshakeVerdict) (y : SinkState). PrintsOne w x y) old p.0 a v b p.2 (codes "mapper", q),
)
prints_on true false t port segments xs ys v old a b is given p q = subst (λ (x : SinkState). PrintsAll true t port segments ys old x) (sym q) p

prints_end : (json talk : Bool) (given : Option HandshakeVerdict) (t : Terms) (port : ℕ) (segments : List Segment) (xs : List PastDial) (old a b : SinkState)
    → IfSome given (IsGiven t port segments) → PrintsAll json t port segments xs old a → PrintsEnd json talk given a b → PrintsAll json t port segments xs old b
prints_end true false (Some v) t port segments xs old a b given p q = (
  p.0 ++ v ∷ [],
  All-push (IsGiven t port segments) p.0 v p.1 given,
  FoldsTo-push (λ (x : SinkState) (w : HandshakeVerdict) (y : SinkState). PrintsOne w x y) old p.0 a v b p.2 (codes "handshake", q),
)
prints_end true false None t port segments xs old a b given p q = subst (λ (x : SinkState). PrintsAll true t port segments xs old x) (sym q) p
prints_end true true o t port segments xs old a b given p q = subst (λ (x : SinkState). PrintsAll true t port segments xs old x) (sym q) p
prints_end false talk o t port segments xs old a b given p q = subst (λ (x : SinkState). PrintsAll false t port segments xs old x) (sym q) p

prints_none : (json : Bool) (t : Terms) (port : ℕ) (old : SinkState) → PrintsAll json t port [] [] old old
prints_none false t port old = refl
prints_none true t port old = ([], All-nil (IsGiven t port []), refl)

-- ---- the same of more segments

history_more : (t : Terms) (port : ℕ) (segments : List Segment) (s : Segment) (attempts : List PastDial) → History t port segments attempts → History t port (segments ++ s ∷ []) attempts
history_more t port segments s attempts NoAttempt = NoAttempt
history_more t port segments s attempts (NextAttempt earlier before history attempt c now j judged is left others meets) =
    NextAttempt earlier before (history_more t port segments s (earlier ++ before) history) attempt c now j (judged_more t port segments s c now j judged) is left others meets

prints_more : (json : Bool) (t : Terms) (port : ℕ) (segments : List Segment) (s : Segment) (xs : List PastDial) (old new : SinkState) → PrintsAll json t port segments xs old new
    → PrintsAll json t port (segments ++ s ∷ []) xs old new
prints_more false t port segments s xs old new p = p
prints_more true t port segments s xs old new p =
    (p.0, All-weaker (IsGiven t port segments) (IsGiven t port (segments ++ s ∷ [])) (λ v q. given_more t port segments s v q) p.0 p.1, p.2)

module _ {W : Type 0} where
  pub keeps_more : (t : Terms) (port : ℕ) (segments : List Segment) (s : Segment) (json : Bool) (old : SinkState) (r : CaptureJournal W) → Keeps t port segments json old r
      → Keeps t port (segments ++ s ∷ []) json old r
  keeps_more t port segments s json old r p = record {
    terms = p.terms;
    quiet = p.quiet;
    attempts = p.attempts;
    history = history_more t port segments s p.attempts p.history;
    stands = p.stands;
    printed = prints_more json t port segments s p.attempts old r.results p.printed;
  }

  -- ---- the journal goes on

  -- the same attempts are remembered, and it is judged by the same terms
  pub record IsSame (r s : CaptureJournal W) : Type 0 where
    pub terms : s.terms ≡ r.terms
    pub lines : s.lines ≡ r.lines
    pub dials : s.dials.items ≡ r.dials.items
    pub status : s.status ≡ r.status
    pub found : s.has_found ≡ false → r.has_found ≡ false

  stands_same : (r s : CaptureJournal W) → IsSame r s → (attempts : List PastDial) → StandsFor r attempts → StandsFor s attempts
  stands_same r s same attempts p = record {
    earlier = p.earlier;
    all = p.all ∙ ap (λ (l : List PastDial). p.earlier ++ l) (sym same.dials);
    status = same.status ∙ p.status;
    nothing = λ e. p.nothing (same.found e);
  }

  -- nothing was printed
  pub keeps_same : (r s : CaptureJournal W) → IsSame r s → s.results ≡ r.results → GoesOn r s
  keeps_same r s same results t port segments json old p = record {
    terms = same.terms ∙ p.terms;
    quiet = ap (λ l. l.quiet) same.lines ∙ p.quiet;
    attempts = p.attempts;
    history = p.history;
    stands = stands_same r s same p.attempts p.stands;
    printed = subst (PrintsAll json t port segments p.attempts old) (sym results) p.printed;
  }

  -- what there is to say at an end was printed
  pub keeps_ended : (given : Option HandshakeVerdict) (talk : Bool) (r s : CaptureJournal W) → IsSame r s → PrintsEnd r.lines.quiet talk given r.results s.results → GoesOnOf given r s
  keeps_ended given talk r s same prints t port segments json old is p = record {
    terms = same.terms ∙ p.terms;
    quiet = ap (λ l. l.quiet) same.lines ∙ p.quiet;
    attempts = p.attempts;
    history = p.history;
    stands = stands_same r s same p.attempts p.stands;
    printed = prints_end json talk given t port segments p.attempts old r.results s.results is p.printed (subst (λ (b : Bool). PrintsEnd b talk given r.results s.results) p.quiet prints);
  }

  -- an attempt was noted
  pub keeps_noted : (c : Conversation) (now : ℕ) (j : Conclusion) (v : HandshakeVerdict) (r s u : CaptureJournal W) → j.verdict ≡ Some v → IsSame r s → PrintsNoted r.lines.quiet (is_talk j.carried) v r.results s.results
      → AddsOf c now j s u → GoesOnBy c now j r u
  keeps_noted c now j v r s u is_verdict same prints added t port segments json old judged p =
      let adds = added.adds in
      let attempt = added.attempt in
      let is : attempt.verdict ≡ v = cc in
      let meets : Meets attempt r.dials.items adds.left adds.others = subst (λ (l : List PastDial). Meets attempt l adds.left adds.others) same.dials adds.meets in
      let all = p.stands.earlier ++ (adds.others ++ adds.left ∷ []) in
      let verdicts : verdicts_of all ≡ verdicts_of p.attempts ++ v ∷ [] =
      verdicts_more p.stands.earlier r.dials.items adds.others attempt adds.left meets
      ∙ ap (λ (l : List PastDial). verdicts_of l ++ attempt.verdict ∷ []) (sym p.stands.all)
      ∙ ap (λ (w : HandshakeVerdict). verdicts_of p.attempts ++ w ∷ []) is in
      let given : IsGiven t port segments v = record { seen = c; now = now; judged = j; is = judged; verdict = is_verdict } in
      record {
        terms = adds.same.1 ∙ same.terms ∙ p.terms;
        quiet = ap (λ l. l.quiet) (adds.same.2 ∙ same.lines) ∙ p.quiet;
        attempts = all;
        history = NextAttempt p.stands.earlier r.dials.items (subst (History t port segments) p.stands.all p.history) attempt c now j judged added.is adds.left adds.others meets;
        stands = adds.adds p.stands.earlier (same.status ∙ p.stands.status);
        printed = subst (PrintsAll json t port segments all old) (sym adds.same.0)
            (prints_on json (is_talk j.carried) t port segments p.attempts all v old r.results s.results verdicts given p.printed
            (subst (λ (b : Bool). PrintsNoted b (is_talk j.carried) v r.results s.results) p.quiet prints));
      }

  -- ---- what does not print

  -- the same, and nothing was printed
  pub record IsStill (r s : CaptureJournal W) : Type 0 where
    pub same : IsSame r s
    pub results : s.results ≡ r.results

  -- the same but for what is known of nodes; of an end of a registration; of hosts; of what was found; and of what was printed
  pub still_nodes : (r s : CaptureJournal W) → s ≡ record r { nodes = s.nodes } → IsStill r s
  still_nodes r s is = record {
    same = record {
      terms = ap (λ (x : CaptureJournal W). x.terms) is;
      lines = ap (λ (x : CaptureJournal W). x.lines) is;
      dials = ap (λ (x : CaptureJournal W). x.dials.items) is;
      status = ap (λ (x : CaptureJournal W). x.status) is;
      found = λ e. sym (ap (λ (x : CaptureJournal W). x.has_found) is) ∙ e;
    };
    results = ap (λ (x : CaptureJournal W). x.results) is;
  }

  pub still_unregistered : (r s : CaptureJournal W) → s ≡ record r { unregistered = s.unregistered } → IsStill r s
  still_unregistered r s is = record {
    same = record {
      terms = ap (λ (x : CaptureJournal W). x.terms) is;
      lines = ap (λ (x : CaptureJournal W). x.lines) is;
      dials = ap (λ (x : CaptureJournal W). x.dials.items) is;
      status = ap (λ (x : CaptureJournal W). x.status) is;
      found = λ e. sym (ap (λ (x : CaptureJournal W). x.has_found) is) ∙ e;
    };
    results = ap (λ (x : CaptureJournal W). x.results) is;
  }

  pub still_hosts : (r s : CaptureJournal W) → s ≡ record r { hosts = s.hosts } → IsStill r s
  still_hosts r s is = record {
    same = record {
      terms = ap (λ (x : CaptureJournal W). x.terms) is;
      lines = ap (λ (x : CaptureJournal W). x.lines) is;
      dials = ap (λ (x : CaptureJournal W). x.dials.items) is;
      status = ap (λ (x : CaptureJournal W). x.status) is;
      found = λ e. sym (ap (λ (x : CaptureJournal W). x.has_found) is) ∙ e;
    };
    results = ap (λ (x : CaptureJournal W). x.results) is;
  }

  pub still_asked : (r s : CaptureJournal W) → s ≡ record r { has_found = s.has_found } → (s.has_found ≡ false → r.has_found ≡ false) → IsStill r s
  still_asked r s is found = record {
    same = record {
      terms = ap (λ (x : CaptureJournal W). x.terms) is;
      lines = ap (λ (x : CaptureJournal W). x.lines) is;
      dials = ap (λ (x : CaptureJournal W). x.dials.items) is;
      status = ap (λ (x : CaptureJournal W). x.status) is;
      found = found;
    };
    results = ap (λ (x : CaptureJournal W). x.results) is;
  }

  pub same_printed : (r s : CaptureJournal W) → s ≡ record r { results = s.results } → IsSame r s
  same_printed r s is = record {
    terms = ap (λ (x : CaptureJournal W). x.terms) is;
    lines = ap (λ (x : CaptureJournal W). x.lines) is;
    dials = ap (λ (x : CaptureJournal W). x.dials.items) is;
    status = ap (λ (x : CaptureJournal W). x.status) is;
    found = λ e. sym (ap (λ (x : CaptureJournal W). x.has_found) is) ∙ e;
  }

  pub keeps_still : (r s : CaptureJournal W) → IsStill r s → GoesOn r s
  keeps_still r s p = keeps_same r s p.same p.results

  pub keeps_none : (r : CaptureJournal W) → r.dials.items ≡ [] → r.status ≡ 0 → (port : ℕ) → Keeps r.terms port [] r.lines.quiet r.results r
  keeps_none r dials status port = record {
    terms = refl;
    quiet = refl;
    attempts = [];
    history = NoAttempt;
    stands = record { earlier = []; all = sym dials; status = status; nothing = λ _. refl };
    printed = prints_none r.lines.quiet r.terms port r.results;
  }
