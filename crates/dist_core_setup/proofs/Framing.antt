-- Each body behind its length is the frame of its message.
use Rattle.std.proofs.Common.{◌≡◌, ℕ, ◌+◌, ◌≤◌, List, ◌++◌, length, ap, ◌∙◌, arith, lit≤, append_assoc, w16}
use Rattle.std.specs.Int.{to_be_bytes}
use Rattle.dist_names.specs.declared.{creation.Creation.Creation, flags.Flags.Flags}
use Rattle.dist_messages.specs.{Canonical.canonical, Spelling.text_of, declared.message.Message.Message, declared.message.Status.Status}
use Rattle.dist_messages.specs.declared.message.Message.TheVariants as message
use Rattle.dist_messages.specs.declared.message.Status.TheVariants as status
use Rattle.dist_core_setup.specs.Saying.{frame_of}

-- before the body stands its length
in_frame : (before : List ℕ) (m : Message) (n : ℕ) → n ≡ length (canonical m) → (before ++ to_be_bytes w16 n) ++ canonical m ≡ before ++ frame_of m
unfolding frame_of
in_frame before m n e = append_assoc before (to_be_bytes w16 n) (canonical m) ∙ ap (λ (k : ℕ). before ++ (to_be_bytes w16 k ++ canonical m)) e

pub new_name : (before : List ℕ) (flags : Flags) (c : Creation) (name : List ℕ)
    → (before ++ to_be_bytes w16 (15 + length name)) ++ canonical (message.NewName flags c name) ≡ before ++ frame_of (message.NewName flags c name)
new_name before flags c name = in_frame before (message.NewName flags c name) (15 + length name) (omega arith)

pub old_name : (before : List ℕ) (flags : ℕ) (name : List ℕ)
    → (before ++ to_be_bytes w16 (7 + length name)) ++ canonical (message.OldName flags name) ≡ before ++ frame_of (message.OldName flags name)
old_name before flags name = in_frame before (message.OldName flags name) (7 + length name) (omega arith)

pub new_challenge : (before : List ℕ) (flags : Flags) (n : ℕ) (c : Creation) (name : List ℕ)
    → (before ++ to_be_bytes w16 (19 + length name)) ++ canonical (message.NewChallenge flags n c name) ≡ before ++ frame_of (message.NewChallenge flags n c name)
new_challenge before flags n c name = in_frame before (message.NewChallenge flags n c name) (19 + length name) (omega arith)

pub old_challenge : (before : List ℕ) (flags n : ℕ) (name : List ℕ)
    → (before ++ to_be_bytes w16 (11 + length name)) ++ canonical (message.OldChallenge flags n name) ≡ before ++ frame_of (message.OldChallenge flags n name)
old_challenge before flags n name = in_frame before (message.OldChallenge flags n name) (11 + length name) (omega arith)

pub complement : (before : List ℕ) (high : ℕ) (c : Creation)
    → (before ++ to_be_bytes w16 9) ++ canonical (message.Complement high c) ≡ before ++ frame_of (message.Complement high c)
complement before high c = in_frame before (message.Complement high c) 9 (omega arith)

pub reply : (before : List ℕ) (n : ℕ) (digest : List ℕ) → length digest ≡ 16
    → (before ++ to_be_bytes w16 21) ++ canonical (message.Reply n digest) ≡ before ++ frame_of (message.Reply n digest)
reply before n digest h = in_frame before (message.Reply n digest) 21 (omega (arith, h))

pub ack : (before : List ℕ) (digest : List ℕ) → length digest ≡ 16
    → (before ++ to_be_bytes w16 17) ++ canonical (message.Ack digest) ≡ before ++ frame_of (message.Ack digest)
ack before digest h = in_frame before (message.Ack digest) 17 (omega (arith, h))

pub text_is_short : (s : Status) → length (text_of s) ≤ 15
text_is_short status.Ok = lit≤ tt
text_is_short s = lit≤ tt

pub says_status : (before text : List ℕ) (s : Status) → text ≡ text_of s
    → (before ++ to_be_bytes w16 (1 + length text)) ++ canonical (message.Status s) ≡ before ++ frame_of (message.Status s)
says_status before text s e = in_frame before (message.Status s) (1 + length text) (omega (arith, ap (λ (k : List ℕ). length k) e))
