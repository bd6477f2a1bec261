-- A row of parts that is one part longer, and one of its parts.
use Rattle.std.proofs.Common.{◌≡◌, ℕ, zero, suc, ◌+◌, ◌<◌, List, [], ◌∷◌, ◌++◌, length, refl, sym, ap, ◌∙◌, arith, append_assoc, append-nil, subst, take}
use Rattle.std.proofs.lemmas.List.{map-id, take_more}
use Rattle.std.proofs.lemmas.List.FromFn.{map-range_with_len_more, length-range_with_len, get_or-range_with_len}
use Rattle.std.specs.List.{range_with_len}
use Rattle.std.specs.Prelude.{slice_index_or}
use Rattle.slot_words.specs.declared.views.Operation.{Operation}
use Rattle.slot_words.specs.Parts.{Parts, Grew, Then}

module _ {A : Type 0} (IsPart : A → List Operation → Type 0) where
  pub Parts-more : (xs : List A) (x : A) (done part : List Operation) → Parts IsPart xs done → IsPart x part → Parts IsPart (xs ++ x ∷ []) (done ++ part)
  Parts-more [] x done part so_far more = (part, [], ap (λ os. os ++ part) so_far ∙ sym (append-nil part), more, refl)
  Parts-more (y ∷ xs) x done part so_far more =
      let first = so_far.0 in let others = so_far.1 in
      (first, others ++ part, ap (λ os. os ++ part) so_far.2 ∙ append_assoc first others part, so_far.3, Parts-more xs x others part so_far.4 more)

  pub one_part_more : (xs : List A) (x : A) (t u v : List Operation) → Grew (Parts IsPart xs) t u → Grew (IsPart x) u v → Grew (Parts IsPart (xs ++ x ∷ [])) t v
  one_part_more xs x t u v so_far more = record {
    done = so_far.done ++ more.done;
    grown = more.grown ∙ ap (λ os. os ++ more.done) so_far.grown ∙ append_assoc t so_far.done more.done;
    is = Parts-more xs x so_far.done more.done so_far.is more.is;
  }

  -- so far as place i of these items, and then the item there
  pub one_place_more : (xs : List A) (i : ℕ) (d : A) (t u v : List Operation) → i < length xs → Grew (Parts IsPart (take i xs)) t u → Grew (IsPart (slice_index_or xs i d)) u v → Grew (Parts IsPart (take (i + 1) xs)) t v
  one_place_more xs i d t u v within so_far more =
      subst (λ (ys : List A). Grew (Parts IsPart ys) t v) (sym (take_more xs i d within)) (one_part_more (take i xs) (slice_index_or xs i d) t u v so_far more)

pub range-more : (a n : ℕ) → range_with_len a (n + 1) ≡ range_with_len a n ++ (a + n) ∷ []
range-more a n = sym (map-id (range_with_len a (n + 1))) ∙ map-range_with_len_more (λ (k : ℕ). k) a n (a + n) refl ∙ ap (λ ns. ns ++ (a + n) ∷ []) (map-id (range_with_len a n))

-- so far as number n, and then one more
pub one_number_more : (IsPart : ℕ → List Operation → Type 0) (n : ℕ) (t u v : List Operation) → Grew (Parts IsPart (range_with_len 0 n)) t u → Grew (IsPart n) u v → Grew (Parts IsPart (range_with_len 0 (n + 1))) t v
one_number_more IsPart n t u v so_far more =
    let e : range_with_len 0 (n + 1) ≡ range_with_len 0 n ++ n ∷ [] = range-more 0 n ∙ ap (λ (k : ℕ). range_with_len 0 n ++ k ∷ []) (let z : 0 + n ≡ n = omega arith in z) in
    subst (λ (ns : List ℕ). Grew (Parts IsPart ns) t v) (sym e) (one_part_more IsPart (range_with_len 0 n) n t u v so_far more)

pub then_grew : (First Second : List Operation → Type 0) (t u v : List Operation) → Grew First t u → Grew Second u v → Grew (Then First Second) t v
then_grew First Second t u v a b = record {
  done = a.done ++ b.done;
  grown = b.grown ∙ ap (λ os. os ++ b.done) a.grown ∙ append_assoc t a.done b.done;
  is = record { first = a.done; second = b.done; done_is = refl; is_first = a.is; is_second = b.is };
}

-- one of the parts, with what was done before and after it
pub record PartAt {A : Type 0} (IsPart : A → List Operation → Type 0) (x : A) (done : List Operation) : Type 0 where
  pub before : List Operation
  pub part : List Operation
  pub after : List Operation
  pub done_is : done ≡ before ++ (part ++ after)
  pub is : IsPart x part

pub part_at : {A : Type 0} (IsPart : A → List Operation → Type 0) (xs : List A) (d : A) (done : List Operation) → Parts IsPart xs done → (i : ℕ) → i < length xs → PartAt IsPart (slice_index_or xs i d) done
part_at IsPart [] d done parts i h = absurd (omega arith)
part_at IsPart (x ∷ xs) d done parts zero h = record { before = []; part = parts.0; after = parts.1; done_is = parts.2; is = parts.3 }
part_at IsPart (x ∷ xs) d done parts (suc i) h = let at = part_at IsPart xs d parts.1 parts.4 i (omega arith) in record {
  before = parts.0 ++ at.before;
  part = at.part;
  after = at.after;
  done_is = parts.2 ∙ ap (λ os. parts.0 ++ os) at.done_is ∙ sym (append_assoc parts.0 at.before (at.part ++ at.after));
  is = at.is;
}

pub number_at : (IsPart : ℕ → List Operation → Type 0) (slots n : ℕ) (done : List Operation) → Parts IsPart (range_with_len 0 slots) done → n < slots → PartAt IsPart n done
number_at IsPart slots n done parts h =
    let at = part_at IsPart (range_with_len 0 slots) 0 done parts n (omega (arith, length-range_with_len)) in
    let is : slice_index_or (range_with_len 0 slots) n 0 ≡ n = get_or-range_with_len 0 slots n 0 h ∙ (let z : 0 + n ≡ n = omega arith in z) in
    subst (λ (k : ℕ). PartAt IsPart k done) is at
