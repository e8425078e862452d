use Rattle.std.proofs.Common.{List, ap, ◌∙◌}
use lib.Ieee.{Float}
use Rattle.cells.specs.Passes.{raised, average_of}
use Rattle.cells.proofs.Parts.{hornuss_is}
use Rattle.cells.proofs.transform.hornuss_quarter.Goals as goal

pub returns : goal.returns
returns c =
    hornuss_is c.args.coeff.now c.args.x c.args.y _ c.requires.across c.requires.down
    (c.raise.ensures ∙ ap (raised c.take-q.result) c.average.ensures ∙ ap (λ (q : List Float). raised q (average_of q)) c.take-q.ensures)
