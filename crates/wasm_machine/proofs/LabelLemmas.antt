-- The labels and the operands of open blocks.
use Rattle.std.proofs.Common.{◌≡◌, ℕ, zero, suc, ◌+◌, ◌-◌, ◌<◌, ◌≤◌, List, [], ◌∷◌, ◌++◌, length, map, take, drop, get_or, reverse, Some, refl, sym, ap, ◌∙◌, arith, append_assoc, length-append}
use Rattle.std.specs.Prelude.{slice_get}
use Rattle.std.proofs.lemmas.List.{append-nil, take_at, get_or_at}
use Rattle.wasm_types.specs.declared.types.ValType.{ValType}
use Rattle.wasm_values.specs.declared.outcome.Val.{Val}
use Rattle.wasm_spec.specs.Typing.{type_of}
use Rattle.machine_steps.specs.declared.machine.Position.{Position}
use Rattle.machine_steps.specs.declared.machine.Label.{Label}
use Rattle.machine_steps.specs.declared.machine.Machine.{Machine}
use Rattle.machine_steps.specs.Configuration.{OpenBlock, Configuration}
use Rattle.machine_steps.specs.StackLayout.{operands_under, bottom_of, label_of, labels_of, labels_under, Represents}
use Rattle.machine_steps.proofs.StackLayoutLemmas.{labels-length}

-- ---- values of types

-- the topmost values have the first of the types
pub record Cut (vs : List Val) (ts us : List ValType) : Type 0 where
  pub enough : length ts ≤ length vs
  pub upper : map type_of (take (length ts) vs) ≡ ts
  pub lower : map type_of (drop (length ts) vs) ≡ us

pub types_cut : (vs : List Val) (ts us : List ValType) → map type_of vs ≡ ts ++ us → Cut vs ts us
types_cut vs [] us e = record { enough = omega arith; upper = refl; lower = e }
types_cut [] (t ∷ ts) us e = absurd (cc)
types_cut (v ∷ vs) (t ∷ ts) us e =
    let tail : map type_of vs ≡ ts ++ us = cc in
    let head : type_of v ≡ t = cc in
    let c = types_cut vs ts us tail in
    record { enough = let n = c.enough in omega arith; upper = cc; lower = c.lower }

pub map-append : (xs ys : List Val) → map type_of (xs ++ ys) ≡ map type_of xs ++ map type_of ys
map-append [] ys = refl
map-append (x ∷ xs) ys = ap (λ (l : List ValType). type_of x ∷ l) (map-append xs ys)

-- ---- what is open

-- the block that a branch finds, and those outside it
pub record Found (os : List OpenBlock) (l : ℕ) : Type 0 where
  pub here : OpenBlock
  pub rest : List OpenBlock
  pub is : drop l os ≡ here ∷ rest

pub found : (os : List OpenBlock) (l : ℕ) → l < length os → Found os l
found [] l lt = absurd (omega arith)
found (o ∷ os) zero lt = record { here = o; rest = os; is = refl }
found (o ∷ os) (suc l) lt = let g = found os l (omega arith) in record { here = g.here; rest = g.rest; is = g.is }

-- the label that is named has the types of that block
pub label_found : (os : List OpenBlock) (last : List ValType) (l : ℕ) (o : OpenBlock) (rest : List OpenBlock) (ts : List ValType) → drop l os ≡ o ∷ rest
    → slice_get (map (λ (o : OpenBlock). o.label) os ++ last ∷ []) l ≡ Some ts → ts ≡ o.label
label_found [] last zero o rest ts e s = absurd (cc)
label_found (p ∷ os) last zero o rest ts e s = cc
label_found [] last (suc l) o rest ts e s = absurd (cc)
label_found (p ∷ os) last (suc l) o rest ts e s = label_found os last l o rest ts e s

-- past the blocks there is the body's own label alone
pub label_last : (os : List OpenBlock) (last : List ValType) (l : ℕ) (ts : List ValType) → length os ≤ l
    → slice_get (map (λ (o : OpenBlock). o.label) os ++ last ∷ []) l ≡ Some ts → (l ≡ length os) × (ts ≡ last)
label_last [] last zero ts h s = (refl, cc)
label_last [] last (suc l) ts h s = absurd (cc)
label_last (p ∷ os) last zero ts h s = absurd (omega arith)
label_last (p ∷ os) last (suc l) ts h s = let i = label_last os last l ts (omega arith) s in (omega (arith, i.0), i.1)

-- the labels of the inner blocks lie above it
labels_split : (bottom : List Val) (os : List OpenBlock) (l : ℕ) (o : OpenBlock) (rest : List OpenBlock) → drop l os ≡ o ∷ rest
    → (more : List Label) × (labels_of bottom os ≡ labels_of bottom rest ++ label_of (length (operands_under bottom (o ∷ rest))) o ∷ more) × (length more ≡ l)
labels_split bottom os zero o rest e = ([], ap (labels_of bottom) e, refl)
labels_split bottom [] (suc l) o rest e = absurd (cc)
labels_split bottom (p ∷ os) (suc l) o rest e =
    let i = labels_split bottom os l o rest e in
    let last = label_of (length (operands_under bottom (p ∷ os))) p in
    (i.0 ++ last ∷ [], ap (λ (x : List Label). x ++ last ∷ []) i.1 ∙ append_assoc (labels_of bottom rest) (label_of (length (operands_under bottom (o ∷ rest))) o ∷ i.0) (last ∷ []), omega (arith, i.2, length-append i.0 (last ∷ [])))

-- and their operands too
pub under_split : (bottom : List Val) (os : List OpenBlock) (l : ℕ) (o : OpenBlock) (rest : List OpenBlock) → drop l os ≡ o ∷ rest
    → (more : List Val) × (operands_under bottom os ≡ operands_under bottom (o ∷ rest) ++ more)
under_split bottom os zero o rest e = ([], ap (operands_under bottom) e ∙ sym (append-nil (operands_under bottom (o ∷ rest))))
under_split bottom [] (suc l) o rest e = absurd (cc)
under_split bottom (p ∷ os) (suc l) o rest e =
    let i = under_split bottom os l o rest e in
    (i.0 ++ reverse p.below, ap (λ (x : List Val). x ++ reverse p.below) i.1 ∙ append_assoc (operands_under bottom (o ∷ rest)) i.0 (reverse p.below))

-- the labels of the current function
pub open_count : (k : Configuration) (machine : Machine) → Represents k machine → length machine.labels.items ≡ machine.at.labels + length k.blocks
open_count k machine sh =
    omega (arith, ap length sh.labels, length-append (labels_under k.activations) (labels_of (bottom_of k) k.blocks), labels-length (bottom_of k) k.blocks, ap (λ (a : Position). a.labels) sh.at)

-- where the label stands
pub record Place (k : Configuration) (machine : Machine) (index : ℕ) (o : OpenBlock) (rest : List OpenBlock) : Type 0 where
  pub label : (d : Label) → get_or machine.labels.items index d ≡ label_of (length (operands_under (bottom_of k) (o ∷ rest))) o
  pub before : take index machine.labels.items ≡ labels_under k.activations ++ labels_of (bottom_of k) rest

pub label_place : (k : Configuration) (machine : Machine) (l index : ℕ) (g : Found k.blocks l) → Represents k machine → l < length k.blocks → index ≡ length machine.labels.items - 1 - l
    → Place k machine index g.here g.rest
label_place k machine l index g sh lt ei =
    let bottom = bottom_of k in
    let i = labels_split bottom k.blocks l g.here g.rest g.is in
    let here = label_of (length (operands_under bottom (g.here ∷ g.rest))) g.here in
    let front = labels_under k.activations ++ labels_of bottom g.rest in
    let e : machine.labels.items ≡ front ++ here ∷ i.0 = sh.labels ∙ ap (λ (x : List Label). labels_under k.activations ++ x) i.1 ∙ sym (append_assoc (labels_under k.activations) (labels_of bottom g.rest) (here ∷ i.0)) in
    let at : length front ≡ index = omega (arith, ap length e, length-append front (here ∷ i.0), i.2) in
    record {
      label = λ d. ap (λ (x : List Label). get_or x index d) e ∙ get_or_at front here i.0 d index at;
      before = ap (take index) e ∙ take_at front (here ∷ i.0) index at;
    }
