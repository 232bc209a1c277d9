use Rattle.std.proofs.Common.{rules}
use Rattle.listing.proofs.output.render.Goals as goal
use Rattle.listing.proofs.output.render.Goals.{in-Numbers, in-Ports}

pub returns : goal.returns
returns c = elim c.match-kind.branch [ in-Numbers w ↦ search rules | in-Ports w ↦ search rules ]
