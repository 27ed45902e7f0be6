-- One request served, put together from what was read and what was written.
use Rattle.dist_epmd_calls.proofs.Words.{◌≡◌, ℕ, ◌<◌, ◌≢◌, List, [], length, take, drop, IsErr, Some, None, Ok, Err, Option, Result, sym, refl, ap, ◌∙◌, subst}
use Rattle.dist_epmd_calls.proofs.Words.{inl, inr, arith, length-drop, take-append-drop, RefusedBut, StreamState, SaysFront, Spends, TurnError, Says-none}
use Rattle.dist_epmd_calls.proofs.Words.{Spends-trans, append_known-none, is_want, written_answer, EpmdError, Answer, Request, lookup_error, whole_refusal}
use Rattle.dist_epmd_calls.proofs.Words.{BringsRequest, Came, IsSaid, Replies, Serves, HearsSo, SaysSo, LookupError, Served}
use Rattle.dist_epmd_calls.proofs.Asks.{no_refusal}
use Rattle.std.specs.Io.KnownBytes.{prepend_known, append_known}
use Rattle.dist_epmd.specs.declared.epmd_error.EpmdError.TheVariants as epmd

is_refused : {X : Type 0} (r : Result X EpmdError) (why : EpmdError) → r ≡ Err why → IsErr r
is_refused (Ok x) why e = absurd cc
is_refused (Err y) why e = refl

-- ---- the answer goes

abbrev good : List ℕ → Result (List ℕ) EpmdError
good x = Ok x

abbrev SaysAnswer : StreamState → StreamState → ℕ → ℕ → Result (Unit {0}) LookupError → Answer → Type 0
SaysAnswer old new turns left result answer = SaysSo old new turns left (λ stop said. IsSaid stop (written_answer answer) result said)

front_cut : (n : ℕ) (text : List ℕ) → n < length text → drop n text ≢ []
front_cut n text h e = absurd (omega (arith, length-drop n text, ap length e))

pub answer_cut : {old new : StreamState} {turns left : ℕ} (fault : TurnError) (answer : Answer) (text bytes : List ℕ) → bytes ≡ text → written_answer answer ≡ Ok text → SaysFront old new turns left (Some fault) bytes → SaysAnswer old new turns left (Err (lookup_error fault)) answer
answer_cut fault answer text bytes same e p = record {
  said = take p.count bytes;
  stop = Some fault;
  says = p.says;
  means = (refl, record { text = bytes; unsaid = drop p.count bytes; bytes = e ∙ ap good (sym same); front = sym (take-append-drop p.count bytes); lacks = front_cut p.count bytes p.whole });
}

unsaid : (answer : Answer) (why : EpmdError) → RefusedBut (is_want why) why (written_answer answer) → IsSaid None (written_answer answer) (Err (whole_refusal why)) []
unsaid answer epmd.NoMemory e = (e, refl)
unsaid answer why e = (is_refused (written_answer answer) why e, refl)

pub answer_unsaid : (s : StreamState) (turns : ℕ) (answer : Answer) (why : EpmdError) → RefusedBut (is_want why) why (written_answer answer) → SaysAnswer s s turns turns (Err (whole_refusal why)) answer
answer_unsaid s turns answer why e = record { said = []; stop = None; says = Says-none s turns; means = unsaid answer why e }

pub says_as : {old new : StreamState} {turns left : ℕ} {r s : Result (Unit {0}) LookupError} (answer : Answer) → r ≡ s → SaysAnswer old new turns left s answer → SaysAnswer old new turns left r answer
says_as {old = old} {new = new} {turns = turns} {left = left} answer same p = subst (λ r. SaysAnswer old new turns left r answer) (sym same) p

-- ---- the whole

came_whole : (stop : Option TurnError) (request : Request) (heard : List ℕ) → Came stop (Ok request) heard → BringsRequest heard request × (stop ≡ None)
came_whole (Some f) request heard h = absurd (no_refusal request (lookup_error f) h.0)
came_whole None request heard h = (h, refl)

module _ {M : Type 0} {allows : M → ℕ → Request → Answer → M → Type 0} {leaves : M → ℕ → M → Type 0} {conn : ℕ} where
  pub serves_none : {before : M} {old new : StreamState} {turns left : ℕ} (e : LookupError) → HearsSo old new turns left (λ stop heard. Came stop (Err e) heard) → Serves allows leaves conn turns old new before before (Err e)
  serves_none {old = old} {left = left} e p = record {
    said = [];
    heard = p.heard;
    written = p.hears.written ∙ sym (append_known-none old.written);
    unread = p.hears.unread;
    left = left;
    stop = p.stop;
    spends = p.hears.spends;
    outcome = inl (record { why = e; result_is = refl; came = p.means; nothing = refl; same = refl });
  }

  pub serves_asked : {before after : M} {old mid new : StreamState} {turns between left : ℕ} {result : Result Served LookupError} (request : Request)
      → HearsSo old mid turns between (λ stop heard. Came stop (Ok request) heard) → SaysSo mid new between left (λ stop said. Replies allows leaves conn before after request stop result said)
      → Serves allows leaves conn turns old new before after result
  serves_asked {old = old} {mid = mid} {turns = turns} {between = between} {left = left} request p q =
      let came = came_whole p.stop request p.heard p.means in
      record {
        said = q.said;
        heard = p.heard;
        written = q.says.written ∙ ap (λ known. append_known known q.said) p.hears.written;
        unread = p.hears.unread ∙ ap (λ known. prepend_known p.heard known) (sym q.says.unread);
        left = left;
        stop = q.stop;
        spends = Spends-trans (subst (Spends old mid turns between) came.1 p.hears.spends) q.says.spends;
        outcome = inr (record { request = request; came = came.0; replies = q.means });
      }
