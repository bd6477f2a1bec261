-- A memory that grows.
use Rattle.std.proofs.Common.{◌≡◌, ℕ, zero, suc, ◌+◌, ◌-◌, ◌*◌, ◌≤◌, List, [], ◌∷◌, ◌++◌, length, take, drop, replicate, refl, sym, ap, ◌∙◌, arith}
use Rattle.std.proofs.lemmas.List.{drop-drop, take-replicate, drop-replicate}
use Rattle.wasm_spec.specs.Store.{page_size}
use Rattle.linear_memory.specs.declared.memory.Memory.{Memory}
use Rattle.linear_memory.specs.Bytes.{IsMemory, shown, size_of}

none_taken : (b : ℕ) → take {A = ℕ} b [] ≡ []
none_taken zero = refl
none_taken (suc b) = refl

take_further : (a b c : ℕ) (xs : List ℕ) → c ≡ a + b → take c xs ≡ take a xs ++ take b (drop a xs)
take_further zero b c xs e = ap (λ (n : ℕ). take n xs) (omega arith)
take_further (suc a) b zero xs e = absurd (omega arith)
take_further (suc a) b (suc c) [] e = sym (none_taken b)
take_further (suc a) b (suc c) (x ∷ xs) e = ap (λ (l : List ℕ). x ∷ l) (take_further a b c xs (omega arith))

module _ (limit pages : ℕ) (old new : Memory) (is : IsMemory limit old) (fits : old.pages + pages ≤ limit) (bytes : new.bytes.items ≡ old.bytes.items) (marks : new.marks ≡ old.marks) (grown : new.pages ≡ old.pages + pages) where
  size_grown : size_of new ≡ size_of old + pages * page_size
  size_grown = ap (λ (n : ℕ). n * page_size) grown ∙ omega arith

  same_length : length new.bytes.items ≡ length old.bytes.items
  same_length = ap length bytes

  within : size_of old + pages * page_size ≤ length old.bytes.items
  within = let r = is.bytes in omega arith

  pub shown_grown : shown new ≡ shown old ++ replicate (pages * page_size) 0
  shown_grown =
      ap (take (size_of new)) bytes
      ∙ take_further (size_of old) (pages * page_size) (size_of new) old.bytes.items size_grown
      ∙ ap (λ (l : List ℕ). shown old ++ take (pages * page_size) l) is.zeros
      ∙ ap (λ (l : List ℕ). shown old ++ l) (take-replicate (pages * page_size) (length old.bytes.items - size_of old) 0 (omega (arith, within)))

  pub memory_grown : size_of new ≤ new.bytes.accessible → IsMemory limit new
  memory_grown accessible = record {
    bytes = let r = is.bytes in omega (arith, same_length);
    marks = rw marks is.marks;
    size = rw grown fits;
    zeros =
        ap (drop (size_of new)) bytes
        ∙ ap (λ (n : ℕ). drop n old.bytes.items) size_grown
        ∙ sym (drop-drop (pages * page_size) (size_of old) old.bytes.items)
        ∙ ap (drop (pages * page_size)) is.zeros
        ∙ drop-replicate (pages * page_size) (length old.bytes.items - size_of old) 0
        ∙ ap (λ (n : ℕ). replicate n 0) (omega (arith, size_grown, same_length));
    accessible = accessible;
  }
