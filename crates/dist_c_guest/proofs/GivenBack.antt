-- The names that might connect are given back after a step.
use Rattle.dist_c_guest.proofs.Common.{◌≡◌, ℕ, List, Some, None, Ok, Err, Option, Result, sym, refl, ap, ◌∙◌, subst, option_or, Name, EndId, GivesReply, NodeState, node_after}
use Rattle.dist_c_guest.proofs.Common.{effect_of, step, step_result, Effect, Event, Reply, StepError, IsCall, answer_after, answer_to, frame_to, node_letting}
use Rattle.dist_c_guest.proofs.Common.{allowed_names, expansion, plain, reply_of, Guest, Reading}
use Rattle.dist_c_guest.proofs.Frames.{Answer, refuses-back}
use Rattle.dist_core.specs.declared.event.Event.TheVariants as event

-- ---- no other names: nothing has to be given back

given-back-same : (n : NodeState) (v : Event) (fresh : ℕ) → answer_after n (step n v fresh) ≡ step n v fresh
given-back-same n v fresh = by (effect_of n v fresh)
  where
    by : (r : Result Effect StepError) → answer_after n (step_result n v r) ≡ step_result n v r
    by (Ok f) = refl
    by (Err e) = refl

asked-same : (n : NodeState) (names : Option (List Name)) (v : Event) (fresh : ℕ) → n.setup.allow ≡ names → step n v fresh ≡ answer_after n (step (node_letting n names) v fresh)
asked-same n names v fresh e = sym (given-back-same n v fresh) ∙ ap (λ (l : Option (List Name)). answer_after n (step (node_letting n l) v fresh)) e

-- ---- other names: the node's own are given back

-- whatever was answered
pub node-back : (n : NodeState) (names : Option (List Name)) (s : Answer) → node_letting (node_after (node_letting n names) s) n.setup.allow ≡ node_after n (answer_after n s)
node-back n names (Ok x) = refl
node-back n names (Err e) = refl

given-back : (v : Event) (m : NodeState) (back : Option (List Name)) (s : Answer) (answer : Result (Unit {0}) StepError) (given : Option (List Name)) (g mid : Guest) → m ≡ node_letting g.node given → back ≡ g.node.setup.allow → IsCall v answer s (record g { node = m }) mid → IsCall v answer (answer_after g.node s) g (record mid { node = node_letting mid.node back })
given-back v m back s (Ok u) given g mid asked own (r, is, kept, heard, same) =
    (r, ap (answer_after g.node) is ∙ ap (λ (l : Option (List Name)). Ok (r, node_letting mid.node l)) (sym own), kept, heard, same)
given-back v m back s (Err e) given g mid asked own (h, same) = (
  refuses-back g.node e s h,
  ap (λ (k : Guest). record k { node = node_letting k.node back }) same
      ∙ ap (λ (n : NodeState). record g { node = node_letting n back }) asked
      ∙ ap (λ (l : Option (List Name)). record g { node = node_letting g.node l }) own,
)

gives-back : (n : NodeState) (s : Answer) (result : Result Reply StepError) → GivesReply result s → GivesReply result (answer_after n s)
gives-back n s (Ok r) h = by s ∙ h
  where
    by : (s : Answer) → reply_of (answer_after n s) ≡ reply_of s
    by (Ok x) = refl
    by (Err e) = refl
gives-back n s (Err e) h = refuses-back n e s h

-- ---- a body, as it is read

module _ (g : Guest) (id : EndId) (body : List ℕ) (fresh : ℕ) (came : List ℕ) (names : Option (List Name)) where
  abbrev own : Option (List Name)
  own = g.node.setup.allow

  abbrev v : Event
  v = event.Frame id came

  -- what the body is read as, and the names that are asked for
  abbrev IsRead : Type 0
  IsRead = (came ≡ expansion g.reading.mandatory.0 body) × (option_or names own ≡ allowed_names g.reading.forms came own)

  abbrev answered : List ℕ → Option (List Name) → Answer
  answered x l = answer_after g.node (step (node_letting g.node l) (event.Frame id x) fresh)

  same-answer : IsRead → answered came (option_or names own) ≡ answer_to g id body fresh
  same-answer (is, l) = ap (answered came) l ∙ ap (λ (x : List ℕ). answered x (allowed_names g.reading.forms x own)) is

  took : (answer : Result (Unit {0}) StepError) (after : Guest) → IsRead → IsCall v answer (answered came (option_or names own)) g after → IsCall (frame_to g id body) answer (answer_to g id body fresh) g after
  took answer after read h = subst (λ (x : List ℕ). IsCall (event.Frame id x) answer (answer_to g id body fresh) g after) read.0 (subst (λ (s : Answer). IsCall v answer s g after) (same-answer read) h)

  -- no other names
  plain-answer : names ≡ None → step g.node v fresh ≡ answered came (option_or names own)
  plain-answer none = asked-same g.node (option_or names own) v fresh (sym (ap (λ (o : Option (List Name)). option_or o own) none))

  pub took-plain : (answer : Result (Unit {0}) StepError) (after : Guest) → IsRead → names ≡ None → IsCall v answer (step g.node v fresh) g after → IsCall (frame_to g id body) answer (answer_to g id body fresh) g after
  took-plain answer after read none h = took answer after read (subst (λ (s : Answer). IsCall v answer s g after) (plain-answer none) h)

  pub foresaw-plain : (result : Result Reply StepError) → IsRead → names ≡ None → GivesReply result (step g.node v fresh) → GivesReply result (answer_to g id body fresh)
  foresaw-plain result read none h = subst (GivesReply result) (plain-answer none ∙ same-answer read) h

  -- these names, at a node that is asked with them
  module _ (wider : List Name) (m : NodeState) (read : IsRead) (some : names ≡ Some wider) (asked : m ≡ node_letting g.node (Some wider)) where
    wider-answer : answer_after g.node (step m v fresh) ≡ answered came (option_or names own)
    wider-answer = ap (λ (n : NodeState). answer_after g.node (step n v fresh)) asked ∙ ap (λ (o : Option (List Name)). answered came (option_or o own)) (sym some)

    pub took-wider : (answer : Result (Unit {0}) StepError) (back : Option (List Name)) (mid : Guest) (k : NodeState) → back ≡ own → k ≡ node_letting mid.node back → IsCall v answer (step m v fresh) (record g { node = m }) mid → IsCall (frame_to g id body) answer (answer_to g id body fresh) g (record mid { node = k })
    took-wider answer back mid k is given h =
        took answer (record mid { node = k }) read (subst (λ (s : Answer). IsCall v answer s g (record mid { node = k })) wider-answer
        (subst (λ (n : NodeState). IsCall v answer (answer_after g.node (step m v fresh)) g (record mid { node = n })) (sym given)
        (given-back v m back (step m v fresh) answer (Some wider) g mid asked is h)))

    pub foresaw-wider : (result : Result Reply StepError) → GivesReply result (step m v fresh) → GivesReply result (answer_to g id body fresh)
    foresaw-wider result h = subst (GivesReply result) (wider-answer ∙ same-answer read) (gives-back g.node (step m v fresh) result h)

-- ---- a guest that reads bodies as they came

pub plain-reads : (g : Guest) → g.reading ≡ plain → (id : EndId) (body : List ℕ) (fresh : ℕ) → (frame_to g id body ≡ event.Frame id body) × (answer_to g id body fresh ≡ step g.node (event.Frame id body) fresh)
plain-reads g is id body fresh = (
  ap (λ (r : Reading). event.Frame id (expansion r.mandatory.0 body)) is,
  ap (λ (r : Reading). let came = expansion r.mandatory.0 body in answer_after g.node (step (node_letting g.node (allowed_names r.forms came g.node.setup.allow)) (event.Frame id came) fresh)) is ∙ given-back-same g.node (event.Frame id body) fresh,
)
