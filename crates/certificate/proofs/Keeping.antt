-- The loop that keeps the errors of the basis, on lists. Assumes nothing.
use native.Mathlib.Omega.{arith}
use mathlib.Core.Path.{◌≡◌, refl, ap, sym, ◌∙◌}
use mathlib.Core.Logic.{inl, inr}
use mathlib.Core.List.{List}
use Prim.Native.Nat.{ℕ, ◌+◌, ◌<◌, ◌≤◌, min}
use lib.ListN.{length, get_or, set, length-set, get_or-eq_default}
use lib.Seq.{get_or-set_same, get_or-set_other}
use lib.Ieee.{Float, nan}
use Rattle.std.proofs.lemmas.List.{get_or_default}
use Rattle.exact.proofs.Naturals.{le_or_lt}
use Rattle.loops.proofs.Listed.{is_each_place}
use Rattle.certificate.specs.Everywhere.{if_basic, kept_at, basic_only}

module _ (basic : List ℕ) (errors : List Float) where
  -- the errors before the place k are kept or made 0, those from it on as they were
  pub record BasicKept (e : List Float) (k : ℕ) : Type 0 where
    pub long : length e ≡ length errors
    pub before : (v : ℕ) → v < k → get_or e v nan ≡ kept_at basic v (get_or errors v nan)
    pub beyond : (v : ℕ) → k ≤ v → get_or e v nan ≡ get_or errors v nan

  pub none_kept : BasicKept errors 0
  none_kept = record { long = refl; before = λ v less. absurd (omega arith); beyond = λ v from. refl }

module _ {basic : List ℕ} {errors e : List Float} {k : ℕ} (kept : BasicKept basic errors e k) where
  pub one_kept : {x : Float} → k < length basic → k < length e → x ≡ if_basic (get_or basic k 0) (get_or e k nan) → BasicKept basic errors (set e k x) (k + 1)
  one_kept {x} flag less is =
      record {
        long = length-set e k x ∙ kept.long;
        before = λ v below.
            elim (le_or_lt k v) [
              | inl here ↦
                  let at : v ≡ k = omega arith in
                  ap (λ (j : ℕ). get_or (set e k x) j nan) at ∙ get_or-set_same e k x nan less ∙ is ∙ ap (λ (flag : ℕ). if_basic flag (get_or e k nan)) (get_or_default basic k 0 1 flag)
                  ∙ ap (kept_at basic k) (kept.beyond k (omega arith))
                  ∙ ap (λ (j : ℕ). kept_at basic j (get_or errors j nan)) (sym at)
              | inr past ↦ get_or-set_other e k v x nan (λ same. omega (arith, same)) ∙ kept.before v past
            ];
        beyond = λ v from. get_or-set_other e k v x nan (λ same. omega (arith, same)) ∙ kept.beyond v (omega arith);
      }

  pub all_kept : min (length basic) (length errors) ≤ k → e ≡ basic_only basic errors
  all_kept end =
      is_each_place (kept_at basic) nan errors e kept.long
      (λ v less.
      elim (le_or_lt k v) [
        | inl from ↦
            kept.beyond v from
            ∙ ap (λ (flag : ℕ). if_basic flag (get_or errors v nan)) (sym (get_or-eq_default basic 1 (omega arith)))
        | inr past ↦ kept.before v past
      ])
