-- What a fault leaves.
use Rattle.std.proofs.{Common.◌≡◌, Common.ℕ, Common.Bool, Common.true, Common.false, Common.List, Common.Option, Common.Ok, Common.subst, KnownBytes.Appends-kept}
use Rattle.std.specs.{List.All, Io.KnownBytes.Appends, Io.KnownBytes.Keeps}
use Rattle.dist_names.specs.Escaped.{IsPrintableOrLineFeed}
use Rattle.dist_secret.specs.Hearing.{Hears}
use Rattle.dist_stream.specs.Stream.{StreamState}
use Rattle.dist_epmd.specs.declared.message.Request.TheVariants.{Names}
use Rattle.dist_epmd_calls.specs.Asking.{AsksFor, names_meant}
use Rattle.dist_script.specs.Texts.{PutsFront}
use Rattle.dist_script.proofs.Fronts.{front_all}
use Rattle.distnode.specs.{Printed.cookie_line, Printed.PrintsNames, Printed.answer_text, Printed.has_whole_lines}
use Rattle.distnode.specs.Stopped.{StopsCookie, StopsNames}
use Rattle.distnode.specs.declared.fault.Fault.TheVariants as fault

-- ---- what was written, and then flushed

-- a flush leaves what was written
pub flushed : (a b c : Option (List ℕ)) (text : List ℕ) → Appends a b text → Keeps b c → Appends a c text
flushed a b c text put keeps = Appends-kept a b c text put keeps

-- also one that failed
pub unflushed : (a b c : Option (List ℕ)) (text : List ℕ) → Appends a b text → Keeps b c → PutsFront text a c
unflushed a b c text put keeps = front_all a c text (flushed a b c text put keeps)

-- ---- `cookie`

-- its line could not be written
pub cut_line : (before after : Option (List ℕ)) (challenge : ℕ) (a b : Option (List ℕ)) (cookie line : List ℕ) → Hears before after (Ok cookie) → line ≡ cookie_line cookie challenge → PutsFront line a b → StopsCookie before after challenge a b fault.WriteFailed
cut_line before after challenge a b cookie line hears same put = (cookie, hears, subst (λ l. PutsFront l a b) same put)

-- ---- `names`

-- its answer was printed
pub all_names : (terminal : Bool) (before after : StreamState) (turns : ℕ) (a b : Option (List ℕ)) (port : ℕ) (text said : List ℕ) → AsksFor Names before after turns names_meant (Ok (port, text)) → has_whole_lines text ≡ true → said ≡ answer_text terminal text → (terminal ≡ true → All IsPrintableOrLineFeed said) → Appends a b said → PrintsNames terminal before after turns a b
all_names terminal before after turns a b port text said asks whole same printable put =
    (port, text, asks, whole, subst (λ t. terminal ≡ true → All IsPrintableOrLineFeed t) same printable, subst (λ t. Appends a b t) same put)

-- it was printed, and ends inside a line
pub part_of_names : (terminal : Bool) (before after : StreamState) (turns : ℕ) (a b : Option (List ℕ)) (port : ℕ) (text said : List ℕ) → AsksFor Names before after turns names_meant (Ok (port, text)) → has_whole_lines text ≡ false → said ≡ answer_text terminal text → (terminal ≡ true → All IsPrintableOrLineFeed said) → Appends a b said → StopsNames terminal before after turns a b fault.AnswerCut
part_of_names terminal before after turns a b port text said asks part same printable put =
    (port, text, asks, part, subst (λ t. terminal ≡ true → All IsPrintableOrLineFeed t) same printable, subst (λ t. Appends a b t) same put)

-- it could not be written
pub cut_names : (terminal : Bool) (before after : StreamState) (turns : ℕ) (a b : Option (List ℕ)) (port : ℕ) (text said : List ℕ) → AsksFor Names before after turns names_meant (Ok (port, text)) → said ≡ answer_text terminal text → PutsFront said a b → StopsNames terminal before after turns a b fault.WriteFailed
cut_names terminal before after turns a b port text said asks same put = (port, text, asks, subst (λ t. PutsFront t a b) same put)
