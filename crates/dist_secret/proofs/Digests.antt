-- The length of a digest.
use Rattle.std.proofs.Common.{◌≡◌, ℕ, ◌/◌, List, [], ◌++◌, length, arith, length-append, decimal, slice_index, w32}
use Rattle.std.specs.Int.{to_le_bytes}
use Rattle.md5.specs.Md5.{md5, digest_bytes, hash_after, padded_message}
use Rattle.dist_secret.specs.Digest.{digest_of}

-- four words of four bytes are 16 bytes
four_words : (h : List ℕ) → length (digest_bytes h 4) ≡ 16
unfolding digest_bytes
four_words h = omega (arith, length-append (((([] ++ to_le_bytes w32 (slice_index h 0)) ++ to_le_bytes w32 (slice_index h 1)) ++ to_le_bytes w32 (slice_index h 2))) (to_le_bytes w32 (slice_index h 3)), length-append ((([] ++ to_le_bytes w32 (slice_index h 0)) ++ to_le_bytes w32 (slice_index h 1))) (to_le_bytes w32 (slice_index h 2)), length-append (([] ++ to_le_bytes w32 (slice_index h 0))) (to_le_bytes w32 (slice_index h 1)))

md5_length : (text : List ℕ) → length (md5 text) ≡ 16
unfolding md5
md5_length text = four_words (hash_after (padded_message text) (length (padded_message text) / 64))

pub digest_length : (cookie : List ℕ) (challenge : ℕ) → length (digest_of cookie challenge) ≡ 16
digest_length cookie challenge = md5_length (cookie ++ decimal challenge)
