-- What is sent to a client, and what is left of it and of the registry (ERTS User's Guide, Distribution Protocol, EPMD Protocol).
use Rattle.std.specs.Prelude.{ℕ, List, [], ◌∷◌, ◌++◌, Option, Some, None, Result, Ok, Err}
use Rattle.dist_epmd.specs.Registrations.{Registrations, after_closed, after_request, answer_to, registered_info}
use Rattle.dist_epmd.specs.Layout.{written_answer}
use Rattle.dist_epmd.specs.declared.{epmd_error.EpmdError.EpmdError, message.Request.Request, message.Answer.Answer}
use Rattle.dist_epmd.specs.declared.message.Request.TheVariants as request
use Rattle.dist_epmd_calls.specs.{Mapping.port_answer, Mapping.names_answer, Serving.served_as}
use Rattle.dist_epmd_calls.specs.declared.serve.Served.{Served, TheVariants.Registered, TheVariants.Answered}
use Rattle.dist_epmd_clients.specs.declared.question.Question.TheVariants.{Inside, Asks, Nothing}
use Rattle.dist_epmd_clients.specs.declared.client.Turn.TheVariants.{Wait, Stay, Leave}
use Rattle.dist_epmd_clients.specs.Asking.{question}
use Rattle.dist_epmd_clients.specs.declared.{client.Client.Client, client.Talk.Talk, question.Question.Question, client.Turn.Turn}
use Rattle.dist_epmd_clients.specs.declared.client.Talk.TheVariants as talk

-- ---- what the registry answers

-- the answer to a request that came on a connection: Register a Node in EPMD, Get the Distribution Port of Another Node, Get All
-- Registered Names from EPMD
abbrev pub answer_for : ℕ → Request → Registrations → Answer
answer_for conn (request.Alive info) registrations = answer_to conn info registrations
answer_for conn (request.PortPlease name) registrations = port_answer (registered_info name registrations)
answer_for conn request.Names registrations = names_answer registrations

-- the registry after it: only a registration changes it
abbrev pub registrations_after : ℕ → Request → Registrations → Registrations
registrations_after conn (request.Alive info) registrations = after_request conn info registrations
registrations_after conn (request.PortPlease name) registrations = registrations
registrations_after conn request.Names registrations = registrations

-- the name that a request has, if it has one
abbrev pub name_in : Request → List ℕ
name_in (request.Alive info) = info.name
name_in (request.PortPlease name) = name
name_in request.Names = []

-- the bytes where there are some, and otherwise none
abbrev pub or_none : Result (List ℕ) EpmdError → List ℕ
or_none (Ok text) = text
or_none (Err error) = []

-- the bytes of an answer, where it has some
abbrev pub text_of : Answer → List ℕ
text_of answer = or_none (written_answer answer)

-- ---- what becomes of a client

-- what is to be done for a client, and what is left of it and of the registry
pub record Outcome (S : Type 0) : Type 0 where
  pub turn : Turn S
  pub client : Option (Client S)
  pub registrations : Registrations

module _ {S : Type 0} where
  -- the client whose talk stands here
  abbrev pub with_talk : Talk → Client S → Client S
  with_talk talk client = record client { talk = talk }

  -- nothing is to be done
  abbrev pub waits : Option (Client S) → Registrations → Outcome S
  waits client registrations = record { turn = Wait; client = client; registrations = registrations }

  -- the client leaves, nothing is said to it, and its connection is over
  abbrev pub leaves : ℕ → Client S → Registrations → Outcome S
  leaves conn client registrations = record { turn = Leave client.stream []; client = None; registrations = after_closed conn registrations }

  -- A client that registered its node keeps its connection (Register a Node in EPMD). That of any other that was answered is
  -- closed.
  abbrev pub replies : Served → Client S → List ℕ → List ℕ → Registrations → Outcome S
  replies Registered client name text registrations =
      record { turn = Stay text; client = Some (with_talk (talk.Registered name) client); registrations = registrations }
  replies Answered client name text registrations = record { turn = Leave client.stream text; client = None; registrations = registrations }

  -- what a request makes of a client that had not asked before
  abbrev pub asks : ℕ → Client S → Request → Registrations → Outcome S
  asks conn client request registrations = let answer = answer_for conn request registrations in
      replies (served_as request answer) client (name_in request) (text_of answer) (registrations_after conn request registrations)

  -- what all that a client has said by now makes of it, by what it asks for
  abbrev pub outcome : ℕ → Client S → List ℕ → Registrations → Question → Outcome S
  outcome conn client said registrations Inside = waits (Some (with_talk (talk.Asking said) client)) registrations
  outcome conn client said registrations Nothing = leaves conn client registrations
  outcome conn client said registrations (Asks request) = asks conn client request registrations

  -- what bytes make of a client, by where its talk stands: whoever is registered says nothing any more
  abbrev pub talks : ℕ → Client S → Talk → List ℕ → Registrations → Outcome S
  talks conn client (talk.Asking said) piece registrations = outcome conn client (said ++ piece) registrations (question client.local (said ++ piece))
  talks conn client (talk.Registered name) piece registrations = leaves conn client registrations

  -- WHAT BYTES THAT COME ON A CONNECTION MAKE OF IT, where its client is here
  abbrev pub after_piece : ℕ → Option (Client S) → List ℕ → Registrations → Outcome S
  after_piece conn client [] registrations = waits client registrations
  after_piece conn None piece registrations = waits None registrations
  after_piece conn (Some client) piece registrations = talks conn client client.talk piece registrations

  -- what pieces make of a connection that come on it one after the other, and the turn of the last
  abbrev pub after_pieces : ℕ → Option (Client S) → List (List ℕ) → Registrations → Outcome S
  after_pieces conn client [] registrations = waits client registrations
  after_pieces conn client (piece ∷ []) registrations = after_piece conn client piece registrations
  after_pieces conn client (piece ∷ next ∷ pieces) registrations = let after = after_piece conn client piece registrations in
      after_pieces conn after.client (next ∷ pieces) after.registrations
