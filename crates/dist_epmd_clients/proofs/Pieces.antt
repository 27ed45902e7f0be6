-- In whatever pieces a frame comes, the last one makes the turn of the whole.
use Rattle.std.proofs.Common.{◌≡◌, ℕ, ◌<◌, ◌≤◌, Bool, List, [], ◌∷◌, ◌++◌, length, Some, refl, sym, ap, ◌∙◌, append_assoc, arith}
use Rattle.std.specs.Prelude.{◌≢◌}
use Rattle.dist_epmd_clients.proofs.Words.{w16, AllByRecursion, concat, append-nil, body_frame, served_as, Client, Asking, Inside, Asks, Nothing, new_client}
use Rattle.dist_epmd_clients.proofs.Frames.{front_waits}
use Rattle.dist_epmd.specs.Registrations.{Registrations}
use Rattle.dist_epmd_calls.specs.declared.serve.Served.{Served}
use Rattle.dist_epmd_calls.specs.declared.serve.Served.TheVariants as served
use Rattle.dist_epmd_clients.specs.Replying.{after_piece, after_pieces, answer_for, name_in, registrations_after, outcome, replies, text_of, with_talk}
use Rattle.dist_epmd_clients.specs.{declared.question.Question.Question, Asking.question}

some_left : (next rest : List ℕ) → next ≢ [] → 0 < length (next ++ rest)
some_left [] rest some = absurd (some refl)
some_left (x ∷ xs) rest some = omega arith

module _ {S : Type 0} where
  any_served : (client : Client S) (said name text : List ℕ) (registrations : Registrations) (how : Served) → replies how (with_talk (Asking said) client) name text registrations ≡ replies how client name text registrations
  any_served client said name text registrations served.Registered = refl
  any_served client said name text registrations served.Answered = refl

  -- what is asked makes the same of a client, whatever was kept of its talk
  any_talk : (conn : ℕ) (client : Client S) (said all : List ℕ) (registrations : Registrations) (asked : Question) → outcome conn (with_talk (Asking said) client) all registrations asked ≡ outcome conn client all registrations asked
  any_talk conn client said all registrations Inside = refl
  any_talk conn client said all registrations Nothing = refl
  any_talk conn client said all registrations (Asks request) =
      let answer = answer_for conn request registrations in
      any_served client said (name_in request) (text_of answer) (registrations_after conn request registrations) (served_as request answer)

  -- the pieces of a frame behind what was said of it
  rest_asks : (conn : ℕ) (client : Client S) (body said : List ℕ) (pieces : List (List ℕ)) (registrations : Registrations) → length body ≤ 4094 → AllByRecursion (λ piece. piece ≢ []) pieces → pieces ≢ [] → said ++ concat pieces ≡ body_frame w16 body
      → after_pieces conn (Some (with_talk (Asking said) client)) pieces registrations ≡ outcome conn client (body_frame w16 body) registrations (question client.local (body_frame w16 body))
  rest_asks conn client body said [] registrations few all some e = absurd (some refl)
  rest_asks conn client body said ([] ∷ pieces) registrations few all some e = absurd (all.0 refl)
  rest_asks conn client body said ((x ∷ xs) ∷ []) registrations few all some e =
      any_talk conn client said (said ++ (x ∷ xs)) registrations (question client.local (said ++ (x ∷ xs)))
      ∙ ap (λ (whole : List ℕ). outcome conn client whole registrations (question client.local whole)) (ap (λ (l : List ℕ). said ++ l) (sym (append-nil (x ∷ xs))) ∙ e)
  rest_asks conn client body said ((x ∷ xs) ∷ (next ∷ pieces)) registrations few all some e =
      let joined : (said ++ (x ∷ xs)) ++ concat (next ∷ pieces) ≡ body_frame w16 body = append_assoc said (x ∷ xs) (concat (next ∷ pieces)) ∙ e in
      let inside : question client.local (said ++ (x ∷ xs)) ≡ Inside = front_waits client.local body (said ++ (x ∷ xs)) (concat (next ∷ pieces)) few (some_left next (concat pieces) all.1.0) (sym joined) in
      ap (λ (q : Question). after_pieces conn (outcome conn (with_talk (Asking said) client) (said ++ (x ∷ xs)) registrations q).client (next ∷ pieces) (outcome conn (with_talk (Asking said) client) (said ++ (x ∷ xs)) registrations q).registrations) inside
      ∙ rest_asks conn client body (said ++ (x ∷ xs)) (next ∷ pieces) registrations few all.1 (λ h. cc) joined

  pub pieces_ask : (conn : ℕ) (stream : S) (local : Bool) (since : ℕ) (body : List ℕ) (pieces : List (List ℕ)) (registrations : Registrations) → length body ≤ 4094 → AllByRecursion (λ piece. piece ≢ []) pieces → concat pieces ≡ body_frame w16 body
      → after_pieces conn (Some (new_client stream local since)) pieces registrations ≡ after_piece conn (Some (new_client stream local since)) (body_frame w16 body) registrations
  pieces_ask conn stream local since body pieces registrations few all e =
      rest_asks conn (new_client stream local since) body [] pieces registrations few all (λ h. let none : body_frame w16 body ≡ [] = sym e ∙ ap (λ (l : List (List ℕ)). concat l) h in cc) e
