-- One frame, put together from its length and its body.
use Rattle.dist_epmd_calls.proofs.Words.{◌≡◌, ℕ, ◌^◌, ◌<◌, ◌≤◌, List, ◌++◌, length, get_or, take, Some, None, Ok, Err, sym, ap, ◌∙◌, inr, arith, length-take-le}
use Rattle.dist_epmd_calls.proofs.Words.{w16, from_be_bytes, to_be_bytes, body_frame, StreamState, HearsFront, TurnError, Hears-trans, HearsFrame, HearsLen}
use Rattle.dist_epmd_calls.proofs.Registering.{all_heard}
use Rattle.std.proofs.lemmas.Nat.{be_bytes_2}
use Rattle.dist_epmd_calls.specs.declared.bodies.Arrived.TheVariants as arrived

pub len_cut : {old new : StreamState} {turns left : ℕ} (e : TurnError) (header : List ℕ) → length header ≡ 2 → HearsFront old new turns left (Some e) header → HearsLen old new turns left (Err e)
len_cut e header two p =
    let few : p.count < length header = p.whole in
    let len : length (take p.count header) ≡ p.count = length-take-le p.count header p.fits in
    record { heard = take p.count header; hears = p.hears; whole = tt; cut = omega arith }

pub len_whole : {old new : StreamState} {turns left : ℕ} (header : List ℕ) (len : ℕ) → length header ≡ 2 → ((i : ℕ) → get_or header i 0 < 256) → len ≡ from_be_bytes w16 header → len < 2 ^ 16 → HearsFront old new turns left None header → HearsLen old new turns left (Ok len)
len_whole header len two bytes is fits p = record { heard = header; hears = all_heard header p; whole = (sym (be_bytes_2 header len two bytes is), fits); cut = tt }

pub frame_cut : {old mid new : StreamState} {turns between left : ℕ} (most len : ℕ) (e : TurnError) (room : List ℕ) → length room ≡ len → HearsLen old mid turns between (Ok len) → HearsFront mid new between left (Some e) room → HearsFrame old new turns left most (arrived.Stopped e)
frame_cut most len e room all p q =
    let few : q.count < length room = q.whole in
    let some : length (take q.count room) ≡ q.count = length-take-le q.count room q.fits in
    let less : length (take q.count room) < len = omega arith in
    record {
      heard = p.heard ++ take q.count room;
      hears = Hears-trans p.hears q.hears;
      means = inr (len, take q.count room, p.whole.1, ap (λ (l : List ℕ). l ++ take q.count room) p.whole.0, less);
    }

pub frame_whole : {old mid new : StreamState} {turns between left : ℕ} (most len : ℕ) (room body : List ℕ) → len ≤ most → length room ≡ len → body ≡ room → HearsLen old mid turns between (Ok len) → HearsFront mid new between left None room → HearsFrame old new turns left most (arrived.Body body)
frame_whole most len room body within all same p q =
    let front : p.heard ++ room ≡ body_frame w16 room = ap (λ (l : List ℕ). l ++ room) (p.whole.0 ∙ ap (to_be_bytes w16) (sym all)) in
    let size : length body ≡ len = ap length same ∙ all in
    let fits : length body ≤ most = omega arith in
    record {
      heard = p.heard ++ room;
      hears = Hears-trans p.hears (all_heard room q);
      means = (front ∙ ap (body_frame w16) (sym same), fits);
    }
