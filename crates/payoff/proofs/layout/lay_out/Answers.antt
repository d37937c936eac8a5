-- The rows of the pairs of sequences are the table of every game that is loaded there.
use native.Mathlib.Omega.{arith}
use Rattle.model.specs.Game.{one, two}
use Rattle.loaded.specs.Sections.{leaf_section}
use Rattle.payoff.specs.Layout.{RowsIn}
use Rattle.payoff.proofs.GameLeaves.{numbers_sortable, rows_are_table}
use Rattle.payoff.proofs.layout.lay_out.Goals as goal

pub returns : goal.returns
returns c g payoffs L =
    let r = c.sorted_rows in
    let made : RowsIn (leaf_section one) (leaf_section two) c.args.counts c.args.numbers.now r.result r.new.sorted r.new.bounds = r.ensures in
    rows_are_table L made (omega (arith, (numbers_sortable L.in_numbers).few_leaves, c.requires.bounds_long, r.auto.bounds))

pub sorted_rows-requires : goal.sorted_rows-requires
sorted_rows-requires c =
    let p = c.requires in
    let t = numbers_sortable p.in_numbers in
    record {
      in1 = omega (arith, p.in_numbers.decoded.room);
      in2 = omega (arith, p.in_numbers.decoded.room);
      sortable = t;
      sorted_long = omega (arith, t.few_leaves, p.sorted_long);
      bounds_long = omega (arith, t.few_leaves, p.bounds_long);
    }
