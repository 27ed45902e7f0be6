use Rattle.std.proofs.Common.{ap, true}
use Rattle.clap.specs.Words.{App}
use Rattle.distnode.proofs.program.bare.Goals as goal

abbrev flagged : App → App
flagged app = record app { top = record app.top { no_binary_name = true; disable_help_subcommand = true; subcommand_required = true } }

pub returns : goal.returns
returns c = rw (c.subcommand_required.ensures, c.disable_help_subcommand.ensures, c.no_binary_name.ensures) (ap flagged c.new.ensures.app)
