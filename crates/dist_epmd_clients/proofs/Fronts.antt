-- The front of a body: what a spelling of a request has behind it changes nothing.
use Rattle.std.proofs.Common.{◌≡◌, ℕ, ◌-◌, eqb, List, [], ◌∷◌, ◌++◌, length, take, None, Ok, refl, sym, ap, ◌∙◌, arith, length-append}
use Rattle.std.specs.Prelude.{◌≢◌}
use Rattle.dist_epmd_clients.proofs.Words.{cond-false, ne_eqb, take_at, append-nil, info_at, read_request, NodeInfo, Request}
use Rattle.dist_epmd.specs.Layout.{InfoFits, RequestFits, TextsFit, SpellsRequest, request_text}
use Rattle.dist_epmd.specs.declared.message.Request.TheVariants as request
use Rattle.dist_epmd.proofs.{FieldLaws.info_field, Messages.request_again}
use Rattle.dist_epmd_clients.specs.Asking.{front, up_to}

-- a text with bytes behind it, up to its end
cut : (text more : List ℕ) → take (length (text ++ more) - length more) (text ++ more) ≡ text
cut text more =
    let len : length text ≡ length (text ++ more) - length more = omega (arith, length-append text more) in
    take_at text more (length (text ++ more) - length more) len

registration_front : (info : NodeInfo) (more : List ℕ) → InfoFits info → TextsFit info → front (request_text (request.Alive info) ++ more) ≡ request_text (request.Alive info)
unfolding front
registration_front info more fits sized =
    ap (up_to (request_text (request.Alive info) ++ more)) (info_field.again info more (fits.0, (tt, (tt, (fits.1, (fits.2, (sized.0, sized.1)))))))
    ∙ cut (request_text (request.Alive info)) more

pub spelled : (m : Request) (body : List ℕ) → RequestFits m → SpellsRequest m body → front body ≡ body
unfolding front
spelled (request.Alive info) body fits s =
    ap front (s.1 ∙ sym (append-nil (request_text (request.Alive info))))
    ∙ registration_front info [] fits s.0
    ∙ sym s.1
spelled (request.PortPlease name) body fits s = ap front s ∙ sym s
spelled request.Names body fits s = ap front s ∙ sym s

pub registration : (info : NodeInfo) (more : List ℕ) → InfoFits info → TextsFit info → read_request (front (request_text (request.Alive info) ++ more)) ≡ Ok (request.Alive info)
registration info more fits sized =
    ap read_request (registration_front info more fits sized)
    ∙ request_again (request.Alive info) (request_text (request.Alive info)) fits (sized, refl)

pub short : (fields : List ℕ) → info_at fields ≡ None → front (0x78 ∷ fields) ≡ 0x78 ∷ fields
unfolding front
short fields e = ap (up_to (0x78 ∷ fields)) e

pub names : (more : List ℕ) → read_request (front (request_text request.Names ++ more)) ≡ Ok request.Names
unfolding front
names more = request_again request.Names (request_text request.Names) tt refl

pub others : (tag : ℕ) (rest : List ℕ) → tag ≢ 0x78 → tag ≢ 0x6e → front (tag ∷ rest) ≡ tag ∷ rest
unfolding front
others tag rest x n =
    cond-false (eqb tag 0x78) (up_to (tag ∷ rest) (info_at rest)) _ (ne_eqb tag 0x78 x)
    ∙ cond-false (eqb tag 0x6e) (take 1 (tag ∷ rest)) (tag ∷ rest) (ne_eqb tag 0x6e n)
