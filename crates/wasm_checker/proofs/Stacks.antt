-- The parts of the flat stacks.
use Rattle.std.proofs.Common.{◌≡◌, ℕ, zero, suc, ◌+◌, ◌-◌, ◌<◌, List, [], ◌∷◌, ◌++◌, length, get_or, reverse, Option, Some, None, refl, sym, ap, ◌∙◌, arith, append_assoc, length-append}
use Rattle.std.specs.Prelude.{slice_get, max}
use Rattle.std.proofs.lemmas.List.{reverse-append, length-reverse}
use Rattle.wasm_types.specs.declared.types.ValType.{ValType}
use Rattle.std.proofs.lemmas.List.{get_or_push, get_or_append_left, same_from_push}
use Rattle.std.proofs.lemmas.Option.{slice_get_past}
use Rattle.wasm_spec.specs.Typing.{result_types}
use Rattle.wasm_checker.specs.declared.checker.ControlFrame.{ControlFrame}
use Rattle.wasm_checker.specs.declared.checker.Checker.{Checker}
use Rattle.wasm_checker.specs.Check.{pop, pop_as, with_operands}
use Rattle.wasm_checker.specs.Position.{EnclosingBlock, CheckPosition, ShowsPosition, base_of, beneath, frames_of, frame_of, labels_of}
use Rattle.wasm_checker.specs.Steps.{PopsTo}

-- the top of the operands
pub top : {X : Type 0} (lower : List X) (x : X) (xs : List X) → lower ++ reverse (x ∷ xs) ≡ (lower ++ reverse xs) ++ x ∷ []
top lower x xs = ap (λ l. lower ++ l) (reverse-append (x ∷ []) xs) ∙ sym (append_assoc lower (reverse xs) (x ∷ []))

pub base_length : (os : List EnclosingBlock) → base_of os ≡ length (beneath os)
base_length [] = refl
base_length (o ∷ os) = omega (arith, base_length os, length-append (beneath os) (reverse o.operands), length-reverse o.operands)

-- the height of the stacks
pub height : (os : List EnclosingBlock) (ks : List (Option ValType)) → length (beneath os ++ reverse ks) ≡ base_of os + length ks
height os ks = omega (arith, base_length os, length-append (beneath os) (reverse ks), length-reverse ks)

frames_length : (os : List EnclosingBlock) → length (frames_of os) ≡ length os
frames_length [] = refl
frames_length (o ∷ os) = omega (arith, frames_length os, length-append (frames_of os) (frame_of o os ∷ []))

labels_length : (r : Option ValType) (os : List EnclosingBlock) → length (labels_of r os) ≡ length os + 1
labels_length r [] = refl
labels_length r (o ∷ os) = omega (arith, labels_length r os)

pub label_at : (r : Option ValType) (os : List EnclosingBlock) (l n : ℕ) (d : ControlFrame) → n ≡ length (frames_of os) → l < n → slice_get (labels_of r os) l ≡ Some (result_types (get_or (frames_of os) (n - 1 - l) d).label_type)
label_at r [] l n d e lt = absurd (omega arith)
label_at r (o ∷ os) zero n d e lt =
    let m : length (frames_of os) ≡ n - 1 - 0 = omega (arith, length-append (frames_of os) (frame_of o os ∷ [])) in
    ap (λ (c : ControlFrame). Some (result_types c.label_type)) (sym (get_or_push (frames_of os) (frame_of o os) d (n - 1 - 0) m))
label_at r (o ∷ os) (suc l) n d e lt =
    let m : length (frames_of os) + 1 ≡ n = omega (arith, length-append (frames_of os) (frame_of o os ∷ [])) in
    let same : n - 1 - suc l ≡ (n - 1) - 1 - l = omega arith in
    label_at r os l (n - 1) d (omega arith) (omega arith)
    ∙ ap (λ (c : ControlFrame). Some (result_types c.label_type)) (sym (ap (λ (i : ℕ). get_or (frames_of (o ∷ os)) i d) same ∙ get_or_append_left (frames_of os) (frame_of o os ∷ []) d ((n - 1) - 1 - l) (omega arith)))

-- the body's own label is the last one
body_label : (r : Option ValType) (os : List EnclosingBlock) → slice_get (labels_of r os) (length os) ≡ Some (result_types r)
body_label r [] = refl
body_label r (o ∷ os) = body_label r os

pub label_last : (r : Option ValType) (os : List EnclosingBlock) (l : ℕ) → l ≡ length (frames_of os) → slice_get (labels_of r os) l ≡ Some (result_types r)
label_last r os l e = ap (slice_get (labels_of r os)) (e ∙ frames_length os) ∙ body_label r os

pub label_past : (r : Option ValType) (os : List EnclosingBlock) (l : ℕ) → length (frames_of os) < l → slice_get (labels_of r os) l ≡ None
label_past r os l h = slice_get_past (labels_of r os) l (omega (arith, frames_length os, labels_length r os))

pub opened_labels : (r : Option ValType) (os : List EnclosingBlock) (c : ControlFrame) (items : List ControlFrame) (peak_labels m depth : ℕ) → items ≡ frames_of os ++ c ∷ [] → depth ≡ length items + 1 → peak_labels ≡ m → max peak_labels depth ≡ max m (length (labels_of r os) + 1)
opened_labels r os c items peak_labels m depth e el en =
    let n : depth ≡ length (labels_of r os) + 1 = omega (arith, el, ap length e, length-append (frames_of os) (c ∷ []), frames_length os, labels_length r os) in
    ap (λ (x : ℕ). max x depth) en ∙ ap (λ (x : ℕ). max m x) n

-- the last of the flat operands is the stack's topmost
pops_as : (k : CheckPosition) (w v : Checker) (t : Option ValType) (ks : List (Option ValType)) → k.stack.operands ≡ ks → ShowsPosition k w → w.base < length w.operands.items → w.operands.items ≡ v.operands.items ++ t ∷ []
    → PopsTo (pop k.stack) t k (record w { operands = v.operands })
pops_as k w v t [] e s lt is = absurd (omega (arith, lt, s.base, ap length s.operands, ap (λ (ks : List (Option ValType)). length (beneath k.blocks ++ reverse ks)) e, length-append (beneath k.blocks) []))
pops_as k w v t (u ∷ ks) e s lt is =
    let flat : v.operands.items ++ t ∷ [] ≡ (beneath k.blocks ++ reverse ks) ++ u ∷ [] =
    sym is ∙ s.operands ∙ ap (λ (ks : List (Option ValType)). beneath k.blocks ++ reverse ks) e ∙ top (beneath k.blocks) u ks in
    let same = same_from_push v.operands.items (beneath k.blocks ++ reverse ks) t u flat in
    record {
      rest = with_operands ks k.stack;
      is = ap (λ (ks : List (Option ValType)). pop_as ks k.stack) e ∙ ap (λ (x : Option ValType). Some (record { top = x; rest = with_operands ks k.stack })) (sym same.1);
      shows = record { sequence = s.sequence; place = s.place; unreachable = s.unreachable; base = s.base; operands = same.0; frames = s.frames; peak_operands = s.peak_operands; peak_labels = s.peak_labels };
    }

pub pops : (k : CheckPosition) (w v : Checker) (t : Option ValType) → ShowsPosition k w → w.base < length w.operands.items → w.operands.items ≡ v.operands.items ++ t ∷ [] → PopsTo (pop k.stack) t k (record w { operands = v.operands })
pops k w v t s lt is = pops_as k w v t k.stack.operands refl s lt is
