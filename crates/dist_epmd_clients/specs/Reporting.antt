-- What a log hears of the clients of a port mapper.
use Rattle.std.specs.Prelude.{ℕ, Bool, List, [], ◌++◌, Option, Some, None, is_some, nat_lt, if◌then◌else◌}
use Rattle.dist_epmd.specs.{declared.message.Request.Request, Registrations.Registrations, Registrations.registered_info}
use Rattle.dist_epmd.specs.declared.message.Request.TheVariants as request
use Rattle.dist_epmd_calls.specs.declared.serve.Served.TheVariants.{Registered, Answered}
use Rattle.dist_epmd_calls.specs.{Serving.served_as, declared.serve.Served.Served}
use Rattle.dist_epmd_clients.specs.declared.question.Question.TheVariants.{Inside, Asks, Nothing}
use Rattle.dist_epmd_clients.specs.Journal.{counts_in, events_in, most_in}
use Rattle.dist_epmd_clients.specs.{Asking.question, Replying.answer_for, Replying.registrations_after}
use Rattle.dist_epmd_clients.specs.declared.{client.Client.Client, client.Talk.Talk, counts.Counts.Counts, event.ClientEvent.ClientEvent}
use Rattle.dist_epmd_clients.specs.declared.{holding.Clients.Clients, journal.Journal.Journal, question.Question.Question}
use Rattle.dist_epmd_clients.specs.declared.client.Talk.TheVariants as talk
use Rattle.dist_epmd_clients.specs.declared.event.ClientEvent.TheVariants as event

-- ---- what happens

-- a request was answered otherwise than by a registration, and these are the registrations
abbrev pub answered_event : ℕ → Request → Registrations → ClientEvent
answered_event conn (request.Alive info) registrations = event.Refused conn info.name (is_some (registered_info info.name registrations))
answered_event conn (request.PortPlease name) registrations = event.LookedUp
answered_event conn request.Names registrations = event.Listed

-- a node is registered, by a registration alone
abbrev pub registered_event : ℕ → Request → Option ClientEvent
registered_event conn (request.Alive info) = Some (event.Registered conn info.name info.port)
registered_event conn (request.PortPlease name) = None
registered_event conn request.Names = None

-- a request was served so
abbrev pub served_event : Served → ℕ → Request → Registrations → Option ClientEvent
served_event Registered conn r registrations = registered_event conn r
served_event Answered conn r registrations = Some (answered_event conn r registrations)

-- a request came on a connection
abbrev pub asked_event : ℕ → Request → Registrations → Option ClientEvent
asked_event conn r registrations = served_event (served_as r (answer_for conn r registrations)) conn r (registrations_after conn r registrations)

-- what all that a client has said by now asks for
abbrev pub question_event : ℕ → Bool → Registrations → Question → Option ClientEvent
question_event conn local registrations Inside = None
question_event conn local registrations Nothing = Some (event.Unanswered conn local)
question_event conn local registrations (Asks r) = asked_event conn r registrations

-- so many clients were late
abbrev pub late_event : ℕ → Option ClientEvent
late_event count = if nat_lt 0 count then Some (event.Late count) else None

-- the end of a connection where its talk stood here
abbrev pub talk_ended : ℕ → Talk → Option ClientEvent
talk_ended conn (talk.Asking said) = None
talk_ended conn (talk.Registered name) = Some (event.Ended conn name)

module _ {S : Type 0} where
  -- THE END OF A CONNECTION: it is that of a registration where its client has one
  abbrev pub ended_event : ℕ → Option (Client S) → Option ClientEvent
  ended_event conn None = None
  ended_event conn (Some client) = talk_ended conn client.talk

  -- bytes came from a client whose talk stands here
  abbrev pub talk_event : ℕ → Client S → Talk → List ℕ → Registrations → Option ClientEvent
  talk_event conn client (talk.Asking said) piece registrations = question_event conn client.local registrations (question client.local (said ++ piece))
  talk_event conn client (talk.Registered name) piece registrations = Some (event.Ended conn name)

  -- WHAT HAPPENS WHERE BYTES COME ON A CONNECTION, if anything does
  abbrev pub piece_event : ℕ → Option (Client S) → List ℕ → Registrations → Option ClientEvent
  piece_event conn client [] registrations = None
  piece_event conn None piece registrations = None
  piece_event conn (Some client) piece registrations = talk_event conn client client.talk piece registrations

  -- ---- what is seen of it

  -- what happened
  abbrev pub journal_of : Clients S → Journal
  journal_of c = c.journal

  -- the events that wait
  abbrev pub events_of : Clients S → List ClientEvent
  events_of c = events_in c.journal

  -- how many events may wait
  abbrev pub most_of : Clients S → ℕ
  most_of c = most_in c.journal

  -- how often what happened
  abbrev pub counts_of : Clients S → Counts
  counts_of c = counts_in c.journal
