-- The text of a call by what is drawn for it, and a load with one more call.
use Rattle.std.proofs.Common.{◌≡◌, ℕ, zero, suc, ◌≤◌, ◌+◌, ◌/◌, ◌%◌, List, [], ◌∷◌, ◌++◌, refl, ap, sym, ◌∙◌, arith, add-one, append_assoc, codes}
use Rattle.std.specs.Fmt.{decimal}
use Rattle.std.specs.List.{flat_map, range_with_len}
use Rattle.std.proofs.lemmas.List.{flat_map_more}
use Rattle.load_maker.specs.Load.{call_text, draw_of, drawn_line, made_file, module_lines, state_after, state_at}

pub bump_text : (number draw : ℕ) → draw % 4 ≡ 1 → call_text number draw ≡ codes "call bump bump " ++ decimal 100
unfolding call_text
bump_text number draw is = rw is refl

pub dirty_text : (number draw : ℕ) → draw % 4 ≡ 2 → call_text number draw ≡ codes "call g dirty " ++ decimal ((draw / 4) % 50)
unfolding call_text
dirty_text number draw is = rw is refl

pub look_text : (number draw : ℕ) → 3 ≤ draw % 4 → call_text number draw ≡ codes "call g look " ++ decimal 100
unfolding call_text
look_text number draw most = let is : draw % 4 ≡ 3 = omega arith in rw is refl

pub next_state : (seed calls : ℕ) → state_after (state_at seed calls) ≡ state_at seed (calls + 1)
next_state seed calls = rw add-one refl

one_more : (first n : ℕ) → range_with_len first (suc n) ≡ range_with_len first n ++ (first + n) ∷ []
one_more first zero = let same : first ≡ first + 0 = omega arith in ap (λ (k : ℕ). k ∷ []) same
one_more first (suc n) =
    let same : first + 1 + n ≡ first + suc n = omega arith in
    ap (λ (ks : List ℕ). first ∷ ks) (one_more (first + 1) n ∙ ap (λ (k : ℕ). range_with_len (first + 1) n ++ k ∷ []) same)

pub one_more_call : (seed calls : ℕ) → made_file seed calls ++ call_text (calls + 1) (draw_of (state_at seed (calls + 1))) ++ codes "\n" ≡ made_file seed (calls + 1)
one_more_call seed calls =
    let next : 1 + calls ≡ calls + 1 = omega arith in
    let more : range_with_len 1 calls ++ (calls + 1) ∷ [] ≡ range_with_len 1 (calls + 1) =
    ap (λ (k : ℕ). range_with_len 1 calls ++ k ∷ []) (sym next) ∙ sym (one_more 1 calls) ∙ ap (range_with_len 1) (sym (add-one calls)) in
    append_assoc (made_file seed calls) (call_text (calls + 1) (draw_of (state_at seed (calls + 1)))) (codes "\n") ∙ flat_map_more (drawn_line seed) module_lines (range_with_len 1 calls) (calls + 1)
    ∙ ap (λ (ks : List ℕ). module_lines ++ flat_map (drawn_line seed) ks) more
