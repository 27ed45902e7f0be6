-- How a handshake ends well.
use Rattle.dist_drive.proofs.Words.{◌≡◌, ℕ, true, List, ◌++◌, flat_map, sym, refl, ap, ◌∙◌, subst, append-nil, w16, Linked, Reader, Short, as_linked, rest_of}
use Rattle.dist_drive.proofs.Words.{body_frame, UpRecord, DeskFacts, Does, IsOnlyGone, Start, frames_of, whole_course, Gives, Goes, Place}
use Rattle.dist_drive.proofs.{Carrying.finish_at, Keeping.FrameLaws, Keeping.frames_are, Shown.same_length}
use Rattle.dist_drive.specs.Handshaking.{IsUpWith, ComesUp}

pub comes_up : FrameLaws → {D W : Type 0} (facts : DeskFacts D) (gives : Gives W) (start : Start D W) (place : Place D W) (r : Reader) (kept : UpRecord) (rest : List ℕ)
    → Goes facts gives start place r true
    → IsUpWith (facts.list place.desk) kept
    → rest ≡ rest_of r
    → (IsOnlyGone facts start.desk start.end_ → ⊥)
    → ComesUp facts gives start (finish_at place) kept rest
comes_up laws facts gives start place (Short pending) kept rest goes up rest_is open_ =
    let runs = goes.runs in
    let keeps = goes.rest refl in
    let input_is : runs.input ≡ flat_map (body_frame w16) runs.frames ++ rest = keeps.accounts.whole ∙ ap (λ (l : List ℕ). flat_map (body_frame w16) runs.frames ++ l) (sym rest_is) in
    record {
      frames = runs.frames;
      steps = runs.steps;
      left = place.left;
      does = subst (λ (l : List ℕ). Does facts gives start (whole_course start.first l runs.steps place.left place.draws) place.stream place.desk) input_is runs.does;
      frames_are = sym (ap (λ (l : List ℕ). frames_of l runs.steps) (sym input_is) ∙ frames_are laws runs.input runs.frames runs.steps (as_linked (Short pending)) (same_length start.end_ runs.steps runs.frames runs.events) runs.keeps ∙ append-nil runs.frames);
      events = runs.events;
      up = up;
      marks = runs.marks;
      open_ = open_;
    }
comes_up laws facts gives start place (Linked ended rest') kept rest goes up rest_is open_ = absurd (goes.rest refl)
