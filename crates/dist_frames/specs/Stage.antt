-- What the stages of a reader mean.
use Rattle.dist_frames.specs.{Reader.Reader, Reader.Short, Reader.Linked, declared.frames.ReadStage.ReadStage}
use Rattle.dist_frames.specs.declared.frames.ReadStage.TheVariants as stage

-- the reader at a stage
abbrev pub reader_of : ReadStage → Reader
reader_of (stage.Short pending) = Short pending
reader_of (stage.Linked ended left) = Linked ended left
