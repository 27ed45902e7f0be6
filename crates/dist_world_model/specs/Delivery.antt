-- DELIVERY: what each side sends is appended to a text, its front moves on to the other side, and whole frames are taken.
use Rattle.std.specs.Prelude.{◌++◌}
use Rattle.dist_world_model.specs.Words.{ℕ, List, [], Option, Some, None, Side, Dialler, Acceptor, take, drop, w16, after_first}
use Rattle.dist_world_model.specs.{Lists.at_place, Rows.EndRow, World.Text, World.Conn}

-- nothing was sent
abbrev pub empty_text : Text
empty_text = record { said = []; come = [] }

-- more is sent
abbrev pub more_said : List ℕ → Text → Text
more_said s x = record x { said = x.said ++ s }

-- the next k bytes come, or those that are left
abbrev pub after_delivery : ℕ → Text → Text
after_delivery k x = record { said = drop k x.said; come = x.come ++ take k x.said }

-- the first frame that came is taken
abbrev pub body_taken : Text → Text
body_taken x = record x { come = after_first w16 x.come }

-- the connection once this side has sent s
abbrev pub says : Side → List ℕ → Conn → Conn
says Dialler s c = record c { there = more_said s c.there }
says Acceptor s c = record c { back = more_said s c.back }

-- the text on its way to this side
abbrev pub text_to : Side → Conn → Text
text_to Dialler c = c.back
text_to Acceptor c = c.there

-- the connection with that text changed
abbrev pub change_to : Side → (Text → Text) → Conn → Conn
change_to Dialler f c = record c { back = f c.back }
change_to Acceptor f c = record c { there = f c.there }

-- the connections once this side of connection c has sent s, where there is one
abbrev pub spoken_on : List Conn → Option ℕ → Side → List ℕ → List Conn
spoken_on cs None side s = cs
spoken_on cs (Some c) side s = at_place c (says side s) cs

-- the connections once the end of this row has sent s
abbrev pub conns_after_saying : List Conn → Option EndRow → List ℕ → List Conn
conns_after_saying cs None s = cs
conns_after_saying cs (Some row) s = spoken_on cs row.conn row.side s
