use Rattle.dist_frames.proofs.Histories.{accounts_none, accounts_fed, accounts_taken, accounts_bodies}
use Rattle.dist_frames.proofs.laws.fed_and_moved.Goals as goal

pub returns-clause-none : goal.returns-clause-none
returns-clause-none c = accounts_none

pub returns-clause-fed : goal.returns-clause-fed
returns-clause-fed c = accounts_fed

pub returns-clause-moved : goal.returns-clause-moved
returns-clause-moved c = accounts_taken

pub returns-clause-bodies : goal.returns-clause-bodies
returns-clause-bodies c = accounts_bodies
