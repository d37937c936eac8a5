-- What a writer holds after one write more.
use Rattle.std.proofs.Common.{◌≡◌, ℕ, zero, suc, ◌+◌, ◌-◌, ◌≤◌, List, ◌++◌, length, take, drop, ap, sym, ◌∙◌, subst, arith, length-take}
use Rattle.std.specs.declared.option.Option.{Option}
use Rattle.std.specs.Io.KnownBytes.{Appends}
use Rattle.std.proofs.KnownBytes.{Appends-trans}
use Rattle.std.proofs.Math.Seq.{take-add}
use Rattle.std.proofs.lemmas.List.{take-take}
use Rattle.std.specs.declared.option.Option.TheVariants.{Some, None}
use Rattle.std.specs.declared.ops.ControlFlow.TheVariants.{Continue}
use Rattle.files.specs.Parts.{Taken, Within, after_write_of}

module _ (a b c : Option (List ℕ)) (done count : ℕ) (text : List ℕ) where
  -- the bytes that a write took come after those before it
  pub taken_more : (p : Option ℕ) → done ≤ length text → let rest = take (length text - done) (drop done text) in
      Within (length rest) p → Appends a b (take done text) → Taken b c rest p → Continue count ≡ after_write_of done p → (count ≤ length text) × Appends a c (take count text)
  taken_more (Some zero) l w before now e = let z : ◌≡◌ {A = ℕ} 0 1 = cc in absurd (omega arith)
  taken_more (Some (suc k)) l w before now e =
      let most = length-take (length text - done) (drop done text) in
      let s : done + suc k ≡ count = cc in
      let joined = ap (λ xs. take done text ++ xs) (take-take (suc k) (length text - done) (drop done text) (omega arith)) ∙ sym (take-add done (suc k) text) ∙ ap (λ n. take n text) s in
      (omega arith, subst (Appends _ _) joined (Appends-trans _ _ _ _ _ before now))
  taken_more None l w before now e = let z : ◌≡◌ {A = ℕ} 0 1 = cc in absurd (omega arith)
