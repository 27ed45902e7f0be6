-- A reader of packets is right after any calls.
use Rattle.std.proofs.Common.{◌≡◌, ℕ, ◌≤◌, Bool, true, false, List, [], ◌∷◌, ◌++◌, length, refl, sym, ap, subst, ◌∙◌, append_assoc, w32, flat_map, append-nil}
use Rattle.std.specs.List.{AllByRecursion}
use Rattle.dist_names.specs.Bytes.{IsBytes}
use Rattle.dist_names.proofs.Bytes.{IsBytes-append}
use Rattle.dist_frames.specs.LinkHistory.{Call, Feed, Take, Seen, opening, packets_in, after_call, after_all, FeedBytes}
use Rattle.dist_frames.specs.LinkReading.{Reading, reading, with_piece, is_too_long, next_packet, without_next, up_to, packets_within, to_come}
use Rattle.dist_frames.specs.Stream.{body_frame, FitsWidth, head, has_first, front, behind, split_bodies}
use Rattle.dist_frames.proofs.{LinkFronts.answer_of, LinkFronts.left_of, LinkFronts.Short, LinkFronts.up_to-front, LinkFronts.is_short, Streams.IsBytes-behind}
use Rattle.dist_frames.proofs.Splitting.{wide32, begins, bodies-framed, moved_too, all_and_one}

-- all that a reader keeps
record Kept (most : ℕ) (reader : Reading) (stream : List ℕ) (moved : List (List ℕ)) : Type 0 where
  pub most_is : reader.most ≡ most
  pub whole : stream ≡ flat_map (body_frame w32) moved ++ reader.pending
  pub fit : AllByRecursion (FitsWidth w32) moved
  pub short : Short most moved
  pub bytes : IsBytes reader.pending

kept_opening : (most : ℕ) (rest : List ℕ) → IsBytes rest → Kept most (reading most rest) rest []
kept_opening most rest bytes = record { most_is = refl; whole = refl; fit = tt; short = tt; bytes = bytes }

kept_fed : (most : ℕ) (r : Reading) (stream piece : List ℕ) (moved : List (List ℕ)) → IsBytes piece → Kept most r stream moved → Kept most (with_piece r piece) (stream ++ piece) moved
kept_fed most r stream piece moved bytes k = record {
  most_is = k.most_is;
  whole = ap (λ (x : List ℕ). x ++ piece) k.whole ∙ append_assoc (flat_map (body_frame w32) moved) r.pending piece;
  fit = k.fit;
  short = k.short;
  bytes = IsBytes-append r.pending piece k.bytes bytes;
}

-- when the packet at the front is moved out
kept_front : (most : ℕ) (r : Reading) (stream : List ℕ) (moved : List (List ℕ)) → Kept most r stream moved → is_too_long r ≡ false → has_first w32 r.pending ≡ true → Kept most (reading r.most (behind w32 r.pending)) stream (moved ++ front w32 r.pending ∷ [])
kept_front most r stream moved k long whole =
    let packet = front w32 r.pending in
    record {
      most_is = k.most_is;
      whole = moved_too w32 wide32 stream moved r.pending k.bytes whole k.whole;
      fit = all_and_one (FitsWidth w32) moved packet k.fit (begins w32 wide32 r.pending k.bytes whole).fits;
      short = all_and_one (λ p. length p ≤ most) moved packet k.short (subst (λ (n : ℕ). length packet ≤ n) k.most_is (is_short r long whole));
      bytes = IsBytes-behind w32 r.pending k.bytes;
    }

kept_same : (most : ℕ) (r : Reading) (stream : List ℕ) (moved : List (List ℕ)) → Kept most r stream moved → Kept most r stream (moved ++ [])
kept_same most r stream moved k = subst (λ (x : List (List ℕ)). Kept most r stream x) (sym (append-nil moved)) k

taken_where : (long whole : Bool) (most len : ℕ) (r : Reading) (stream packet rest : List ℕ) (moved : List (List ℕ)) → Kept most r stream moved → (long ≡ false → whole ≡ true → Kept most (reading r.most rest) stream (moved ++ packet ∷ [])) → Kept most (left_of long whole r rest) stream (moved ++ packets_in (answer_of long whole len packet))
taken_where true whole most len r stream packet rest moved k made = kept_same most r stream moved k
taken_where false true most len r stream packet rest moved k made = made refl refl
taken_where false false most len r stream packet rest moved k made = kept_same most r stream moved k

kept_taken : (most : ℕ) (r : Reading) (stream : List ℕ) (moved : List (List ℕ)) → Kept most r stream moved → Kept most (without_next r) stream (moved ++ packets_in (next_packet r))
kept_taken most r stream moved k = taken_where (is_too_long r) (has_first w32 r.pending) most (head w32 r.pending) r stream (front w32 r.pending) (behind w32 r.pending) moved k (kept_front most r stream moved k)

kept_all : (most : ℕ) (calls : List Call) (s : Seen) → FeedBytes calls → Kept most s.reader s.stream s.moved → Kept most (after_all s calls).reader (after_all s calls).stream (after_all s calls).moved
kept_all most [] s fits k = k
kept_all most (Feed piece ∷ calls) s fits k = kept_all most calls (after_call s (Feed piece)) fits.1 (kept_fed most s.reader s.stream piece s.moved fits.0 k)
kept_all most (Take ∷ calls) s fits k = kept_all most calls (after_call s Take) fits (kept_taken most s.reader s.stream s.moved k)

kept_right : (most : ℕ) (r : Reading) (stream : List ℕ) (moved : List (List ℕ)) → Kept most r stream moved → moved ++ to_come r ≡ packets_within most stream
kept_right most r stream moved k =
    ap (λ (n : ℕ). moved ++ up_to n (split_bodies w32 r.pending)) k.most_is
    ∙ sym (ap (λ (x : List ℕ). packets_within most x) k.whole
    ∙ ap (up_to most) (bodies-framed w32 wide32 moved r.pending k.fit)
    ∙ up_to-front most moved (split_bodies w32 r.pending) k.short)

pub right_after : (most : ℕ) (rest : List ℕ) (calls : List Call) → IsBytes rest → FeedBytes calls → (after_all (opening most rest) calls).moved ++ to_come (after_all (opening most rest) calls).reader ≡ packets_within most (after_all (opening most rest) calls).stream
right_after most rest calls bytes fits =
    let s = after_all (opening most rest) calls in
    kept_right most s.reader s.stream s.moved (kept_all most calls (opening most rest) fits (kept_opening most rest bytes))

pub whole_after : (most : ℕ) (rest : List ℕ) (calls : List Call) → IsBytes rest → FeedBytes calls → (after_all (opening most rest) calls).stream ≡ flat_map (body_frame w32) (after_all (opening most rest) calls).moved ++ (after_all (opening most rest) calls).reader.pending
whole_after most rest calls bytes fits = (kept_all most calls (opening most rest) fits (kept_opening most rest bytes)).whole
