-- What the outcome of a call says of its input.
use Prim.Native.Nat.{ℕ, zero, suc}
use mathlib.Core.Path.{◌≡◌, refl, sym, ap, ◌∙◌}
use mathlib.Core.Bool.{Bool, true, false}
use mathlib.Core.List.{List}
use native.Mathlib.Omega.{arith}
use lib.Dec.{T}
use lib.ListN.{length, take, drop}
use lib.Seq.{take-append_seam}
use Rattle.model.specs.Rows.{refusal}
use Rattle.model.specs.Call.{Answer, given, refused, Buffers, lengths, long_enough, after_call, after_all, Call, Outcome, outcome, run}
use Rattle.model.proofs.Rows.{named}
use Rattle.checks.proofs.Chains.{Refuses, call_refuses, call_room, in_room}

module _ {I R : Type 0} {shape : List (Type 0)} (c : Call I shape R) (some : T (named c.rows)) (i : I) (b : Buffers shape) where
  -- the buffers have room for the results
  abbrev pub Roomy : Type 0
  Roomy = long_enough (lengths shape (c.written i)) (lengths shape b) ≡ true

  -- a refusal before 18, of an outcome
  refuses : {n : ℕ} → refusal c.rows i ≡ suc n → {x : Answer R} {after : Buffers shape} → outcome x after ≡ run c i b → x ≡ refused (suc n)
  refuses {n} z e = ap (λ (o : Outcome shape R). o.answer) (e ∙ call_refuses c some i b (record { is = z; some = λ y. omega arith }))

  -- What a call that gives something has done.
  pub record Gave (r : R) (after : Buffers shape) : Type 0 where
    pub fine : refusal c.rows i ≡ 0
    pub room : Roomy
    pub result : r ≡ c.result i
    pub buffers : after ≡ after_all shape 0 (c.written i) b

  pub gave : {x : Answer R} {r : R} {after : Buffers shape} → outcome x after ≡ run c i b → x ≡ given r → Gave r after
  gave {x} {r} {after} e f = go (refusal c.rows i) refl
    where
      roomed : refusal c.rows i ≡ 0 → (t : Bool) → long_enough (lengths shape (c.written i)) (lengths shape b) ≡ t → outcome x after ≡ in_room {R = R} {shape = shape} t (c.result i) (c.written i) b → Gave r after
      roomed z true l o =
          let same : x ≡ given (c.result i) = ap (λ (o : Outcome shape R). o.answer) o in
          let is : r ≡ c.result i = cc in
          record { fine = z; room = l; result = is; buffers = ap (λ (o : Outcome shape R). o.buffers) o }
      roomed z false l o =
          let same : x ≡ refused 18 = ap (λ (o : Outcome shape R). o.answer) o in
          let y : ◌≡◌ {A = ℕ} 0 1 = cc in
          absurd (omega arith)

      go : (n : ℕ) → refusal c.rows i ≡ n → Gave r after
      go zero z = roomed z (long_enough (lengths shape (c.written i)) (lengths shape b)) refl (e ∙ call_room c some i b z)
      go (suc n) z = let same : x ≡ refused (suc n) = refuses z e in let y : ◌≡◌ {A = ℕ} 0 1 = cc in absurd (omega arith)

  -- A call that refuses, with room: one of its checks before 18.
  pub not_gave : {x : Answer R} {k : ℕ} {after : Buffers shape} → outcome x after ≡ run c i b → x ≡ refused k → (refusal c.rows i ≡ 0 → Roomy) → Refuses c.rows i k
  not_gave {x} {k} {after} e f room = go (refusal c.rows i) refl
    where
      go : (n : ℕ) → refusal c.rows i ≡ n → Refuses c.rows i k
      go zero z =
          let o : outcome x after ≡ in_room {R = R} {shape = shape} true (c.result i) (c.written i) b = e ∙ call_room c some i b z ∙ rw (room z) in
          let same : x ≡ given (c.result i) = ap (λ (o : Outcome shape R). o.answer) o in
          let y : ◌≡◌ {A = ℕ} 0 1 = cc in
          absurd (omega arith)
      go (suc n) z = let same : x ≡ refused (suc n) = refuses z e in let is : k ≡ suc n = cc in record { is = z ∙ sym is; some = λ y. omega arith }

-- the front of a buffer after a call
pub front : {A : Type 0} (count : ℕ) (result buffer after : List A) → length result ≡ count → after ≡ after_call 0 result buffer → take count after ≡ result
unfolding after_call
front count result buffer after e f = rw (← e, f) (take-append_seam result (drop (length result) buffer))
