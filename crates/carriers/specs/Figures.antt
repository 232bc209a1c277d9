-- What a carrier says of itself. Assumes nothing.
use Rattle.std.specs.Prelude.{length}
use Rattle.carriers.specs.Meanings.{Meaning}
use Rattle.carriers.specs.declared.carrier.Figures.{Figures}

abbrev pub figures_of : Meaning → Figures
figures_of c = record {
  code = c.code;
  switches = c.switches;
  nodes = c.nodes;
  capacity = c.capacity;
  held = length c.held;
  next = c.next;
}
