-- Worlds that can be.
use Rattle.dist_world_model.proofs.Words.{◌≡◌, ℕ, List, [], ◌++◌, sym, refl, ap, ◌∙◌, subst, Setup, Agreement, AllFit, AreSetups, Counts, IsReached, IsUp}
use Rattle.dist_world_model.proofs.Words.{NodeLaws, run, World, empty, Happening, ℕ, Option, Some, None, slice_get, refl, EndRow, conn_of, IsFooled, OpenAgreement}
use Rattle.dist_world_model.proofs.AgreementOfWorlds.{agreement_holds}
use Rattle.dist_world_model.proofs.OwnSetups.{as-begun, run-setups}
use Rattle.dist_world_model.specs.OwnSetups.{AreAsBegun}
use Rattle.dist_world_model.proofs.HappeningEffects.{run-append, fit-append}

module _ (laws : NodeLaws) where
  pub reached_agree : (w : World) → IsReached w → Agreement w
  reached_agree w r = subst Agreement (sym r.is) (agreement_holds laws r.setups r.happenings r.good r.fit)

pub reached_new : (ss : List Setup) → AreSetups ss → IsReached (empty ss)
reached_new ss h = record { setups = ss; happenings = []; good = h; fit = tt; is = refl }

pub reached_run : (w : World) (hs : List Happening) → IsReached w → AllFit hs → IsReached (run hs w)
reached_run w hs r f = record { setups = r.setups; happenings = r.happenings ++ hs; good = r.good; fit = fit-append r.happenings hs r.fit f; is = ap (run hs) r.is ∙ sym (run-append r.happenings hs (empty r.setups)) }

-- who counts another as up, and does not take somebody outside for it, does so on a connection
pub counted_on : (w : World) (a b : ℕ) → (IsFooled w a b → ⊥) → (u : Counts w a b) → (c : ℕ) × (x : IsUp w a b c) × (x.kept ≡ u.kept)
counted_on w a b wise u = by (slice_get u.life.rows u.id) refl
  where
    linked : (row : EndRow) → slice_get u.life.rows u.id ≡ Some row → (o : Option ℕ) → row.conn ≡ o → (c : ℕ) × (x : IsUp w a b c) × (x.kept ≡ u.kept)
    linked row at None e = absurd (wise (u, ap conn_of at ∙ e))
    linked row at (Some c) e =
        (c, record { place = u.place; life = u.life; id = u.id; kept = u.kept; row = row; other = u.other; runs = u.runs; lives = u.lives; is_up = u.is_up; beside = at; on = e; named = u.named; peer = u.peer }, refl)

    by : (o : Option EndRow) → slice_get u.life.rows u.id ≡ o → (c : ℕ) × (x : IsUp w a b c) × (x.kept ≡ u.kept)
    by None at = absurd (wise (u, ap conn_of at))
    by (Some row) at = linked row at row.conn refl

module _ (laws : NodeLaws) where
  -- two nodes that take nobody outside for the other agree on whatever they count each other as up
  pub open_agree : (w : World) → IsReached w → OpenAgreement w
  open_agree w r a b n wise other_wise u v =
      let x = counted_on w a b wise u in
      let y = counted_on w b a other_wise v in
      (x.0, y.0, x.1, y.1, x.2, y.2, reached_agree laws w r a b x.0 y.0 n x.1 y.1)

-- ---- the setups of the nodes that run

pub reached_traced : (w : World) → IsReached w → (hs : List Happening) × (w ≡ run hs (empty w.setups)) × AreAsBegun w.setups hs w
reached_traced w r =
    let e : r.setups ≡ w.setups = sym (run-setups r.happenings (empty r.setups)) ∙ ap (λ (x : World). x.setups) (sym r.is) in
    let all : AreAsBegun r.setups r.happenings w = subst (AreAsBegun r.setups r.happenings) (sym r.is) (as-begun r.setups r.happenings) in
    (r.happenings, r.is ∙ ap (λ ss. run r.happenings (empty ss)) e, subst (λ ss. AreAsBegun ss r.happenings w) e all)
