-- First sequences, then own sequences of player 1, then of player 2: each call leaves what the next asks.
use native.Mathlib.Omega.{arith}
use Rattle.algebra.proofs.Sections.{apart_twice}
use Rattle.model.specs.Game.{one}
use Rattle.loaded.specs.Sections.{start_section, own_section_of, lead_section}
use Rattle.game.proofs.SequenceStage.{stored_first, stored_second, sequences_numbered}
use Rattle.game.proofs.stages.number_sequences.Goals as goal

pub returns : goal.returns
returns c =
    let f = c.first_sequences-counts.ensures in
    let i = c.own_numbers.ensures in
    let j = c.own_numbers-2.ensures in (
      λ g n h N D.
          let s = f.0 g h D in
          let S = stored_first D N.rooted f.1 s.1 in
          let T = stored_second S i.1 in
          sequences_numbered s.0 T (i.0 g n S) j.1 (j.0 g n T),
      apart_twice start_section lead_section f.1 (apart_twice (own_section_of one) lead_section i.1 j.1 (omega arith) (omega arith) (omega arith) (omega arith)) (omega arith) (omega arith) (omega arith) (omega arith),
    )

pub own_numbers-requires : goal.own_numbers-requires
own_numbers-requires c =
    let p = c.requires in
    let f = c.first_sequences-counts.ensures in
    (p.0, p.1, p.3, stored_first p.4 p.3.rooted f.1 (f.0 p.0 p.2 p.4).1)

pub own_numbers-requires-2 : goal.own_numbers-requires-2
own_numbers-requires-2 c =
    let p = c.requires in
    let f = c.first_sequences-counts.ensures in
    let i = c.own_numbers.ensures in
    (p.0, p.1, p.3, stored_second (stored_first p.4 p.3.rooted f.1 (f.0 p.0 p.2 p.4).1) i.1)

pub first_sequences-counts-requires : goal.first_sequences-counts-requires
first_sequences-counts-requires c = let p = c.requires in (p.0, p.2, p.4, p.3)
