-- The packet of `net_adm:ping`, and that of its answer.
--
-- Where neither side has the atom cache, 112 stands before a control message and its message, and 131 before each of the two (ERTS User's
-- Guide, Protocol between Connected Nodes). 97 begins a small integer, 104 a tuple, and 108 a list (External Term Format).
use Rattle.std.specs.Prelude.{◌≡◌, ◌+◌, ◌*◌, ◌++◌, ◌⊎◌, ℕ, List, [], ◌∷◌, length, codes}

-- an atom (SMALL_ATOM_UTF8_EXT)
abbrev pub atom : List ℕ → List ℕ
atom text = 119 ∷ length text ∷ text

-- what stands before the pid in the packet of a question: `{6, Pid, ..`
abbrev pub reg_send : List ℕ
reg_send = 112 ∷ 131 ∷ 104 ∷ 4 ∷ 97 ∷ 6 ∷ []

-- what follows it: `.., '', net_kernel}`, and `{'$gen_call', {..`
abbrev pub gen_call : List ℕ
gen_call = atom [] ++ (atom (codes "net_kernel") ++ (131 ∷ 104 ∷ 3 ∷ (atom (codes "$gen_call") ++ (104 ∷ 2 ∷ []))))

-- what follows the pid's second place, and the tag: `}, {is_auth, ..`
abbrev pub is_auth : List ℕ
is_auth = 104 ∷ 2 ∷ atom (codes "is_auth")

-- a question after its pid
abbrev pub asked_after_pid : List ℕ → List ℕ → List ℕ → List ℕ
asked_after_pid pid tag node = gen_call ++ (pid ++ (tag ++ (is_auth ++ node)))

-- the packet of the answer: `{2, '', Pid}`, and `{Tag, yes}`
abbrev pub answer : List ℕ → List ℕ → List ℕ
answer pid tag = 112 ∷ 131 ∷ 104 ∷ 3 ∷ 97 ∷ 2 ∷ (atom [] ++ (pid ++ (131 ∷ 104 ∷ 2 ∷ (tag ++ atom (codes "yes")))))

-- the pid of a process of this node: its numbers have 12 bytes (NEW_PID_EXT)
pub record IsPid (pid node : List ℕ) : Type 0 where
  pub name : List ℕ
  pub numbers : List ℕ
  pub node_is : node ≡ atom name
  pub pid_is : pid ≡ 88 ∷ (node ++ numbers)
  pub numbers_len : length numbers ≡ 12

-- a reference made at this node: its creation, and so many words of 4 bytes (NEWER_REFERENCE_EXT)
pub record IsReference (reference node : List ℕ) : Type 0 where
  pub count : ℕ
  pub numbers : List ℕ
  pub reference_is : reference ≡ 90 ∷ 0 ∷ count ∷ (node ++ numbers)
  pub numbers_len : length numbers ≡ 4 + 4 * count

-- what bears the answer: a reference, or `[alias | Reference]` (LIST_EXT)
abbrev pub IsTag : List ℕ → List ℕ → Type 0
IsTag tag node = IsReference tag node ⊎ ((reference : List ℕ) × (tag ≡ 108 ∷ 0 ∷ 0 ∷ 0 ∷ 1 ∷ (atom (codes "alias") ++ reference)) × IsReference reference node)

-- a packet is the question of `net_adm:ping` by this process, with this tag
pub record Asks (packet pid tag : List ℕ) : Type 0 where
  pub node : List ℕ
  pub by : IsPid pid node
  pub with_tag : IsTag tag node
  pub packet_is : packet ≡ reg_send ++ (pid ++ asked_after_pid pid tag node)
