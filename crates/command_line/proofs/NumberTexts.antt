-- The numbers of the texts that a parser of numbers takes.
use Rattle.std.proofs.Common.{◌≡◌, ◌∙◌, ◌<◌, ◌≤◌, ◌^◌, ◌==◌, ℕ, Bool, true, false, List, [], ◌∷◌, Option, Some, None, Result, Ok, Err, cond, refl, ap, arith, drop, codes, inl, inr, sym, ◌||◌}
use Rattle.std.proofs.lemmas.Bool.{ne_eqb}
use Rattle.std.proofs.lemmas.Slice.Eq.{bytes_eq-Decides}
use Rattle.std.proofs.lemmas.Int.{ints}
use Rattle.std.proofs.lemmas.Str.Parse.{digit_from_value}
use Rattle.std.specs.Prelude.{pos, unwrap_or}
use Rattle.std.specs.Option.{option_map_or}
use Rattle.std.specs.Str.{bytes_eq}
use Rattle.std.specs.Str.Parse.{IsNumeral, ParsesUnsigned, digits_value, starts_with_minus, without_leading_plus}
use Rattle.clap.specs.Lexer.{without_minus}
use Rattle.clap.specs.Matches.{ReadsOne}
use Rattle.clap.specs.ValueTests.{accepts}
use Rattle.clap.specs.Values.{IsSignedIn}
use Rattle.clap.specs.Words.{Text, one_of, one_text, rows_of}
use Rattle.clap.specs.declared.builder.value_parser.ValueParser.TheVariants as vp
use Rattle.clap.specs.declared.parser.matches.Found.{Found}
use Rattle.clap.proofs.ValueTestLemmas.{accepts-Accepts}
use Rattle.clap.proofs.WalkLemmas.{one_text-rows}
use Rattle.command_line.specs.Matches.{IsFlag, IsNumberIn, is_set, number_in, number_of}

without_minus-cond : (t : List ℕ) → without_minus t ≡ cond (starts_with_minus t) (drop 1 t) t
without_minus-cond [] = refl
without_minus-cond (x ∷ xs) = go (x == 45)
  where
    go : (b : Bool) → unwrap_or (cond b (Some xs) None) (x ∷ xs) ≡ cond b xs (x ∷ xs)
    go true = refl
    go false = refl

-- digits begin with no plus sign
without_leading_plus-numeral : (ds : List ℕ) → IsNumeral 10 ds → without_leading_plus ds ≡ ds
without_leading_plus-numeral [] h = refl
without_leading_plus-numeral (d ∷ ds) h =
    let no_plus : (d == 43) ≡ false = ne_eqb _ _ (λ e. omega (arith, digit_from_value d h.1.0)) in
    ap (λ (b : Bool). drop (cond b 1 0) (d ∷ ds)) no_plus

-- a text that `i64` reads as a number from `least` to `most` writes that number once its minus sign is taken off: only zero has one
number_in_range : (least most : ℕ) (t : Text) → IsSignedIn (pos least) (pos most) t → IsNumberIn least most (Some (without_minus t))
number_in_range least most t passed = rw without_minus-cond (go (starts_with_minus t) refl)
  where
    go : (b : Bool) → starts_with_minus t ≡ b → IsNumberIn least most (Some (cond b (drop 1 t) t))
    go true minus =
        let low_ok = rw minus at passed.2 in
        let numeral : IsNumeral 10 (drop 1 t) = rw minus at passed.0 in
        let same = without_leading_plus-numeral (drop 1 t) numeral in
        let lower : least ≤ digits_value 10 (drop 1 t) = omega (arith, ints) in
        let upper : digits_value 10 (drop 1 t) ≤ most = omega (arith, ints) in
        (rw same numeral, rw same lower, rw same upper)
    go false minus =
        let numeral = rw minus at passed.0 in
        let low_ok = rw minus at passed.2 in
        let high_ok = rw minus at passed.3 in
        (numeral, omega (arith, ints), omega (arith, ints))

-- a text that a parser of signed numbers takes is a number in its range
pub signed_number : (least most : ℕ) (t : Text) → accepts false (vp.Signed (pos least) (pos most)) t ≡ true → IsNumberIn least most (Some (without_minus t))
signed_number least most t taken = number_in_range least most t (accepts-Accepts false (vp.Signed (pos least) (pos most)) t taken)

-- and of one that `u64` reads
pub unsigned_number : (least most : ℕ) (t : Text) → accepts false (vp.Unsigned least most) t ≡ true → IsNumberIn least most (Some t)
unsigned_number least most t taken =
    let passed = accepts-Accepts false (vp.Unsigned least most) t taken in
    (passed.0, passed.2, passed.3)

-- a number of a range lies in each wider one
pub widened : (least most low high : ℕ) (o : Option Text) → low ≤ least → most ≤ high → IsNumberIn least most o → IsNumberIn low high o
widened least most low high None below above h = absurd h
widened least most low high (Some t) below above h = (h.0, omega arith, omega arith)

-- the number of an option lies in the range of its text
pub number_within : (least most : ℕ) (o : Option Text) → IsNumberIn least most o → (least ≤ option_map_or number_of o 0) × (option_map_or number_of o 0 ≤ most)
number_within least most None h = absurd h
number_within least most (Some t) h = (h.1, h.2)

-- what `get_one` gives of an unsigned type of so many bits
pub reads_number : {E : Type 0} (bits most : ℕ) (G : Text → Result ℕ E → Type 0) (f : Found) (id : Text) (r : Option ℕ) → most < 2 ^ bits
    → ((u : Text) (x : Result ℕ E) → G u x → ParsesUnsigned bits 10 u x)
    → ((t : Text) → one_text f id ≡ Some t → ReadsOne G t r) → IsNumberIn 0 most (one_of id (rows_of f)) → r ≡ Some (number_in id (rows_of f))
reads_number {E} bits most G f id r fits only reads has = go (one_of id (rows_of f)) refl has
  where
    by : (t : Text) (o : Option ℕ) → ReadsOne G t o → IsNumberIn 0 most (Some t) → o ≡ Some (number_of t)
    by t (Some v) h n = ap Some (only t (Ok v) h).1
    by t None h n =
        let small : number_of t < 2 ^ bits = omega arith in
        absurd (only t (Err h.0) h.1 (n.0, small))

    go : (o : Option Text) → one_of id (rows_of f) ≡ o → IsNumberIn 0 most o → r ≡ Some (option_map_or number_of o 0)
    go None e h = absurd h
    go (Some t) e h = by t r (reads t (one_text-rows f id ∙ e)) h

-- what `get_flag` gives
pub reads_flag : (f : Found) (id : Text) (r : Bool) → (one_text f id ≡ Some (codes "true") → r ≡ true) → (one_text f id ≡ Some (codes "false") → r ≡ false)
    → IsFlag (one_of id (rows_of f)) → r ≡ is_set id (rows_of f)
reads_flag f id r if_true if_false has = go (one_of id (rows_of f)) refl has
  where
    go : (o : Option Text) → one_of id (rows_of f) ≡ o → IsFlag o → r ≡ option_map_or (λ text. bytes_eq text (codes "true")) o false
    go None e h = absurd h
    go (Some t) e (inl is) = if_true (one_text-rows f id ∙ e ∙ ap Some is) ∙ ap (λ (u : Text). bytes_eq u (codes "true")) (sym is)
    go (Some t) e (inr is) = if_false (one_text-rows f id ∙ e ∙ ap Some is) ∙ ap (λ (u : Text). bytes_eq u (codes "true")) (sym is)

-- a text that a flag's parser takes
pub flag_text : (t : Text) → accepts false vp.Bool t ≡ true → IsFlag (Some t)
flag_text t taken = go (bytes_eq t (codes "true")) refl (accepts-Accepts false vp.Bool t taken)
  where
    go : (b : Bool) → bytes_eq t (codes "true") ≡ b → (b || bytes_eq t (codes "false")) ≡ true → IsFlag (Some t)
    go true is e = inl ((bytes_eq-Decides t (codes "true")).0 is)
    go false is e = inr ((bytes_eq-Decides t (codes "false")).0 e)
