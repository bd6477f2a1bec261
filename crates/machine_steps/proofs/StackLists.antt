-- Lists whose top stands at the end.
use Rattle.std.proofs.Common.{◌≡◌, ℕ, ◌+◌, ◌-◌, ◌≤◌, List, [], ◌∷◌, ◌++◌, length, take, drop, reverse, sym, ap, ◌∙◌, arith, append_assoc, length-append}
use Rattle.std.proofs.lemmas.List.{reverse-append, length-reverse, take_at, drop_at, take-append-drop, length-take-le}
use Rattle.std.proofs.lemmas.List.Edits.{take-paste}
use lib.Seq.{paste}
use Rattle.wasm_values.specs.declared.outcome.Val.{Val}

-- the topmost operands are the last values
pub cut : (lower operands : List Val) (n : ℕ) → lower ++ reverse operands ≡ (lower ++ reverse (drop n operands)) ++ reverse (take n operands)
cut lower operands n =
    ap (λ (l : List Val). lower ++ l) (ap reverse (sym (take-append-drop n operands)) ∙ reverse-append (take n operands) (drop n operands))
    ∙ sym (append_assoc lower (reverse (drop n operands)) (reverse (take n operands)))

pub top : (lower : List Val) (x : Val) (xs : List Val) → lower ++ reverse (x ∷ xs) ≡ (lower ++ reverse xs) ++ x ∷ []
top lower x xs = ap (λ (l : List Val). lower ++ l) (reverse-append (x ∷ []) xs) ∙ sym (append_assoc lower (reverse xs) (x ∷ []))

-- operands put back on what lay below them
pub put_back : (lower vs below : List Val) → lower ++ reverse (vs ++ below) ≡ (lower ++ reverse below) ++ reverse vs
put_back lower vs below = ap (λ (l : List Val). lower ++ l) (reverse-append vs below) ∙ sym (append_assoc lower (reverse below) (reverse vs))

pub kept : (cells lower middle operands above : List Val) (height n base j : ℕ) → cells ≡ (lower ++ middle ++ reverse operands) ++ above → height ≡ length (lower ++ middle ++ reverse operands) → length lower ≡ base → n ≤ length operands
    → j ≡ height - (height - n) → take (base + n) (paste cells base (drop (height - n) cells) j) ≡ lower ++ reverse (take n operands)
kept cells lower middle operands above height n base j e high low le ej =
    let under : List Val = (lower ++ middle) ++ reverse (drop n operands) in
    let last : List Val = reverse (take n operands) in
    let front : cells ≡ lower ++ ((middle ++ reverse operands) ++ above) =
    e ∙ ap (λ (l : List Val). l ++ above) (append_assoc lower middle (reverse operands)) ∙ append_assoc lower (middle ++ reverse operands) above in
    let split : cells ≡ under ++ (last ++ above) = e ∙ ap (λ (l : List Val). l ++ above) (cut (lower ++ middle) operands n) ∙ append_assoc under last above in
    let some : length last ≡ n = length-reverse (take n operands) ∙ length-take-le n operands le in
    let all : height ≡ length under + n = high ∙ ap length (cut (lower ++ middle) operands n) ∙ omega (arith, some, length-append under last) in
    let moved : drop (height - n) cells ≡ last ++ above = ap (drop (height - n)) split ∙ drop_at under (last ++ above) (height - n) (omega arith) in
    let is : j ≡ n = omega arith in
    let within : base ≤ length cells = omega (arith, ap length front, length-append lower ((middle ++ reverse operands) ++ above)) in
    ap (λ (k : ℕ). take (base + n) (paste cells base (drop (height - n) cells) k)) is
    ∙ take-paste cells base (drop (height - n) cells) n within (omega (arith, ap length moved, some, length-append last above))
    ∙ ap (λ (l : List Val). take base cells ++ take n l) moved
    ∙ ap (λ (l : List Val). l ++ take n (last ++ above)) (ap (take base) front ∙ take_at lower ((middle ++ reverse operands) ++ above) base low)
    ∙ ap (λ (l : List Val). lower ++ l) (take_at last above n some)
