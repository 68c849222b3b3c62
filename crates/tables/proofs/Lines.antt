-- Lines that a closure ran, and one more. Assumes nothing.
use Rattle.std.proofs.Common.{◌≡◌, refl, sym, List, [], ◌∷◌, ◌++◌, ℕ, ◌+◌, ◌<◌, ◌≤◌, length, Ok, Result, Bor, ◌∙◌, ap, Option, take, drop, arith}
use Rattle.std.proofs.Common.{length-append, append-nil, append_assoc, take-append-drop}
use Rattle.std.proofs.Math.ListN.{length-drop, drop_of_length-le}
use Rattle.std.proofs.KnownBytes.{Consumes-nil, Consumes-trans}
use Rattle.std.proofs.lemmas.Fn.{FoldsTo-push, called_at}
use Rattle.std.proofs.lemmas.List.Elements.{All-push}
use Rattle.std.proofs.lemmas.List.Folds.{concat-append}
use Rattle.std.specs.Fn.{Mut, Called, CalledAt}
use Rattle.std.specs.Io.KnownBytes.{Consumes}
use Rattle.std.specs.List.{concat}
use Rattle.tables.specs.Table.{RunsLines}

module _ {F E : Type 0} (calls : Mut F (Bor (List ℕ) × Unit {0}) (Result (Unit {0}) E)) (size : ℕ) where
  -- the input cut no line short
  abbrev pub RunsWhole : ℕ → Option (List ℕ) → Option (List ℕ) → F → F → Type 0
  RunsWhole count before after first last = (so_far : RunsLines calls size count before after first last) × (so_far.rest ≡ [])

  pub no_line : (input : Option (List ℕ)) (first : F) → RunsWhole 0 input input first first
  no_line input first =
      (record { lines = []; taken = []; rest = []; all = refl; long = λ k d h. absurd (omega (arith, h)); source = Consumes-nil input; bytes = refl; short = λ h. h; ran = refl }, refl)

  module _ (count : ℕ) (before mid after : Option (List ℕ)) (first last : F) (so_far : RunsWhole count before mid first last) where
    pub line_more : (next : F) (line : Bor (List ℕ)) (r : Result (Unit {0}) E) → Called calls last (line, tt) r next → r ≡ Ok tt
        → (n : ℕ) → Consumes mid after (take n line.now) → length line.now ≡ size → 0 < n → (more : RunsLines calls size (count + 1) before after first next) × (more.rest ≡ drop n line.now)
    line_more next line r called well n came long some =
        let old = so_far.0 in
        let front = take n line.now in
        let joined : concat old.lines ≡ old.taken = old.bytes ∙ ap (λ l. old.taken ++ l) so_far.1 ∙ append-nil old.taken in (
          record {
            lines = old.lines ++ line.now ∷ [];
            taken = old.taken ++ front;
            rest = drop n line.now;
            all = length-append old.lines (line.now ∷ []) ∙ ap (λ k. k + 1) old.all;
            long = All-push (λ xs. length xs ≡ size) old.lines line.now old.long long;
            source = Consumes-trans before mid after old.taken front old.source came;
            bytes =
                concat-append old.lines (line.now ∷ []) ∙ ap (λ l. l ++ (line.now ++ [])) joined
                ∙ ap (λ l. old.taken ++ l) (append-nil line.now ∙ sym (take-append-drop n line.now)) ∙ sym (append_assoc old.taken front (drop n line.now));
            short = λ h. omega (arith, length-drop n line.now, long, some, h);
            ran = FoldsTo-push (λ s xs t. CalledAt calls s xs (Ok tt) t) first old.lines last line.now next old.ran (called_at calls called well);
          },
          refl,
        )

    -- where the line is whole the next may come
    pub line_whole : (next : F) (line : Bor (List ℕ)) (r : Result (Unit {0}) E) → Called calls last (line, tt) r next → r ≡ Ok tt
        → (n : ℕ) → Consumes mid after (take n line.now) → length line.now ≡ size → 0 < n → size ≤ n → RunsWhole (count + 1) before after first next
    line_whole next line r called well n came long some all =
        let more = line_more next line r called well n came long some in
        (more.0, more.1 ∙ drop_of_length-le line.now {i = n} (omega (arith, long, all)))
