-- What follows from the conditions of a happening, one at a time.
use Rattle.dist_world_model.proofs.Words.{◌≡◌, Bool, true, false, IfSome, Some, None, Ok, Err, Option, Result, refl, ap, result_ok, ◌>>=◌, ◌>>◌}

-- of what follows a thing, where that is there
pub if_there : {A B : Type 0} (P : B → Type 0) (o : Option A) (f : A → Option B) → ((x : A) → o ≡ Some x → IfSome (f x) P) → IfSome (o >>= f) P
if_there P None f h = tt
if_there P (Some x) f h = h x refl

-- of what follows the answer of a step or of a change, where that succeeds
pub if_ok : {A B E : Type 0} (P : B → Type 0) (r : Result A E) (f : A → Option B) → ((x : A) → r ≡ Ok x → IfSome (f x) P) → IfSome (result_ok r >>= f) P
if_ok P (Err e) f h = tt
if_ok P (Ok x) f h = h x refl

-- of what follows a test, where that holds
pub if_holds : {A : Type 0} (P : A → Type 0) (test : Bool) (o : Option A) → (test ≡ true → IfSome o P) → IfSome (test >> o) P
if_holds P true o h = h refl
if_holds P false o h = tt

-- what follows a thing that is there
pub there : {A B : Type 0} (o : Option A) (x : A) (f : A → Option B) → o ≡ Some x → (o >>= f) ≡ f x
there o x f at = ap (λ p. p >>= f) at

-- what follows a test that holds
pub holds : {A : Type 0} (test : Bool) (o : Option A) → test ≡ true → (test >> o) ≡ o
holds test o is = ap (λ b. b >> o) is

-- nothing follows a test that does not hold
pub not_held : {A : Type 0} (test : Bool) (o : Option A) → test ≡ false → (test >> o) ≡ None
not_held test o is = ap (λ b. b >> o) is

-- what follows the answer of a step or of a change that succeeds
pub succeeds : {A B E : Type 0} (r : Result A E) (x : A) (f : A → Option B) → r ≡ Ok x → (result_ok r >>= f) ≡ f x
succeeds r x f is = ap (λ s. result_ok s >>= f) is

-- nothing follows one that is refused
pub is_refused : {A B E : Type 0} (r : Result A E) (e : E) (f : A → Option B) → r ≡ Err e → (result_ok r >>= f) ≡ None
is_refused r e f is = ap (λ s. result_ok s >>= f) is

-- nothing follows a test behind which nothing follows
pub nothing_behind : {A : Type 0} (test : Bool) (o : Option A) → o ≡ None → (test >> o) ≡ None
nothing_behind true o is = is
nothing_behind false o is = refl
