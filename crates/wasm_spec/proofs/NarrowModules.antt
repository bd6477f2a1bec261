-- Modules that copy and fill nothing; those of profile 1 are such.
use Rattle.std.proofs.Common.{◌≡◌, ◌≢◌, ℕ, inl, inr, zero, suc, List, [], ◌∷◌, Bool, true, false, map, Option, Some, None, refl, sym, ap, ◌∙◌, subst}
use Rattle.std.specs.Prelude.{◌||◌, ◌==◌, if◌then◌else◌, find, slice_get, All}
use Rattle.std.proofs.lemmas.List.Elements.{All-nil}
use Rattle.std.specs.List.{list_any}
use Rattle.std.specs.Option.{option_map_or}
use Rattle.wasm_values.specs.declared.profile.Profile.TheVariants.{One}
use Rattle.wasm_types.specs.declared.instr.Instr.{Instr}
use Rattle.wasm_types.specs.declared.instr.MemArg.{MemArg}
use Rattle.wasm_types.specs.declared.module.Import.{Import}
use Rattle.wasm_types.specs.declared.host.HostFunction.TheVariants as host
use Rattle.wasm_types.specs.Tree.{Code, End, Plain, Block, Loop, If, Call, CallIndirect, FunctionTree, ModuleTree}
use Rattle.wasm_spec.specs.Numbers.{TakesEach}
use Rattle.wasm_spec.specs.InstrGrammar.{Shape, Alone, WithIndex, WithLabels, WithAddress, WithZero, WithI32, WithI64, WithBytes, Prefixed, NotPlain, Closer, ByEnd, ByElse, TakesShape, TakesCode, opcodes, shape}
use Rattle.wasm_spec.specs.Grammar.{Section, Spells, SpellsVec, TakesSizedBody, body_of, section}
use Rattle.wasm_spec.specs.Validity.{IsSupported}
use Rattle.wasm_spec.specs.Functions.{host_function}
use Rattle.wasm_spec.specs.Bulk.{HasFewMarks, is_bulk, code_uses_bulk, uses_bulk}

-- a shape of instructions that neither copy nor fill
abbrev IsNarrow : Shape → Type 0
IsNarrow (Alone i) = is_bulk i ≡ false
IsNarrow (WithIndex make) = (x : ℕ) → is_bulk (make x) ≡ false
IsNarrow WithLabels = Unit {0}
IsNarrow (WithAddress make) = (a : MemArg) → is_bulk (make a) ≡ false
IsNarrow (WithZero i) = is_bulk i ≡ false
IsNarrow WithI32 = Unit {0}
IsNarrow WithI64 = Unit {0}
IsNarrow (WithBytes n i) = is_bulk i ≡ false
IsNarrow Prefixed = ⊥
IsNarrow NotPlain = Unit {0}

abbrev AreNarrow : List (ℕ × Shape) → Type 0
AreNarrow [] = Unit {0}
AreNarrow (row ∷ rows) = IsNarrow row.1 × AreNarrow rows

rows_narrow : AreNarrow (opcodes One)
rows_narrow = (
  refl,
  (
    refl,
    (
      (λ x. refl),
      (
        (λ x. refl),
        (
          tt,
          (
            refl,
            (
              refl,
              (
                refl,
                (
                  (λ x. refl),
                  (
                    (λ x. refl),
                    (
                      (λ x. refl),
                      (
                        (λ x. refl),
                        (
                          (λ x. refl),
                          (
                            (λ a. refl),
                            (
                              (λ a. refl),
                              (
                                (λ a. refl),
                                (
                                  (λ a. refl),
                                  (
                                    (λ a. refl),
                                    (
                                      (λ a. refl),
                                      (
                                        (λ a. refl),
                                        (
                                          (λ a. refl),
                                          (
                                            (λ a. refl),
                                            (
                                              (λ a. refl),
                                              (
                                                (λ a. refl),
                                                (
                                                  (λ a. refl),
                                                  (
                                                    (λ a. refl),
                                                    (
                                                      (λ a. refl),
                                                      (
                                                        (λ a. refl),
                                                        (
                                                          (λ a. refl),
                                                          (
                                                            (λ a. refl),
                                                            (
                                                              (λ a. refl),
                                                              (
                                                                (λ a. refl),
                                                                (
                                                                  (λ a. refl),
                                                                  (
                                                                    (λ a. refl),
                                                                    (
                                                                      (λ a. refl),
                                                                      (
                                                                        (λ a. refl),
                                                                        (
                                                                          refl,
                                                                          (
                                                                            refl,
                                                                            (
                                                                              tt,
                                                                              (
                                                                                tt,
                                                                                (
                                                                                  refl,
                                                                                  (
                                                                                    refl,
                                                                                    (
                                                                                      refl,
                                                                                      (
                                                                                        refl,
                                                                                        (
                                                                                          refl,
                                                                                          (
                                                                                            refl,
                                                                                            (
                                                                                              refl,
                                                                                              (
                                                                                                refl,
                                                                                                (
                                                                                                  refl,
                                                                                                  (
                                                                                                    refl,
                                                                                                    (
                                                                                                      refl,
                                                                                                      (
                                                                                                        refl,
                                                                                                        (
                                                                                                          refl,
                                                                                                          (
                                                                                                            refl,
                                                                                                            (
                                                                                                              refl,
                                                                                                              (
                                                                                                                refl,
                                                                                                                (
                                                                                                                  refl,
                                                                                                                  (
                                                                                                                    refl,
                                                                                                                    (
                                                                                                                      refl,
                                                                                                                      (
                                                                                                                        refl,
                                                                                                                        (
                                                                                                                          refl,
                                                                                                                          (
                                                                                                                            refl,
                                                                                                                            (
                                                                                                                              refl,
                                                                                                                              (
                                                                                                                                refl,
                                                                                                                                (
                                                                                                                                  refl,
                                                                                                                                  (
                                                                                                                                    refl,
                                                                                                                                    (
                                                                                                                                      refl,
                                                                                                                                      (
                                                                                                                                        refl,
                                                                                                                                        (
                                                                                                                                          refl,
                                                                                                                                          (
                                                                                                                                            refl,
                                                                                                                                            (
                                                                                                                                              refl,
                                                                                                                                              (
                                                                                                                                                refl,
                                                                                                                                                (
                                                                                                                                                  refl,
                                                                                                                                                  (
                                                                                                                                                    refl,
                                                                                                                                                    (
                                                                                                                                                      refl,
                                                                                                                                                      (
                                                                                                                                                        refl,
                                                                                                                                                        (
                                                                                                                                                          refl,
                                                                                                                                                          (
                                                                                                                                                            refl,
                                                                                                                                                            (
                                                                                                                                                              refl,
                                                                                                                                                              (
                                                                                                                                                                refl,
                                                                                                                                                                (
                                                                                                                                                                  refl,
                                                                                                                                                                  (
                                                                                                                                                                    refl,
                                                                                                                                                                    (
                                                                                                                                                                      refl,
                                                                                                                                                                      (
                                                                                                                                                                        refl,
                                                                                                                                                                        (
                                                                                                                                                                          refl,
                                                                                                                                                                          (
                                                                                                                                                                            refl,
                                                                                                                                                                            (
                                                                                                                                                                              refl,
                                                                                                                                                                              (
                                                                                                                                                                                refl,
                                                                                                                                                                                (
                                                                                                                                                                                  refl,
                                                                                                                                                                                  (
                                                                                                                                                                                    refl,
                                                                                                                                                                                    (
                                                                                                                                                                                      refl,
                                                                                                                                                                                      (
                                                                                                                                                                                        refl,
                                                                                                                                                                                        (
                                                                                                                                                                                          refl,
                                                                                                                                                                                          (
                                                                                                                                                                                            refl,
                                                                                                                                                                                            (
                                                                                                                                                                                              refl,
                                                                                                                                                                                              (
                                                                                                                                                                                                refl,
                                                                                                                                                                                                (
                                                                                                                                                                                                  refl,
                                                                                                                                                                                                  (
                                                                                                                                                                                                    refl,
                                                                                                                                                                                                    (
                                                                                                                                                                                                      refl,
                                                                                                                                                                                                      (
                                                                                                                                                                                                        refl,
                                                                                                                                                                                                        (
                                                                                                                                                                                                          refl,
                                                                                                                                                                                                          (
                                                                                                                                                                                                            refl,
                                                                                                                                                                                                            (
                                                                                                                                                                                                              refl,
                                                                                                                                                                                                              (
                                                                                                                                                                                                                refl,
                                                                                                                                                                                                                (
                                                                                                                                                                                                                  refl,
                                                                                                                                                                                                                  (
                                                                                                                                                                                                                    refl,
                                                                                                                                                                                                                    (
                                                                                                                                                                                                                      refl,
                                                                                                                                                                                                                      (
                                                                                                                                                                                                                        refl,
                                                                                                                                                                                                                        (
                                                                                                                                                                                                                          refl,
                                                                                                                                                                                                                          (
                                                                                                                                                                                                                            refl,
                                                                                                                                                                                                                            (
                                                                                                                                                                                                                              refl,
                                                                                                                                                                                                                              (
                                                                                                                                                                                                                                refl,
                                                                                                                                                                                                                                (
                                                                                                                                                                                                                                  refl,
                                                                                                                                                                                                                                  (
                                                                                                                                                                                                                                    refl,
                                                                                                                                                                                                                                    (
                                                                                                                                                                                                                                      refl,
                                                                                                                                                                                                                                      (
                                                                                                                                                                                                                                        refl,
                                                                                                                                                                                                                                        (
                                                                                                                                                                                                                                          refl,
                                                                                                                                                                                                                                          (
                                                                                                                                                                                                                                            refl,
                                                                                                                                                                                                                                            (
                                                                                                                                                                                                                                              refl,
                                                                                                                                                                                                                                              (
                                                                                                                                                                                                                                                refl,
                                                                                                                                                                                                                                                (
                                                                                                                                                                                                                                                  refl,
                                                                                                                                                                                                                                                  (
                                                                                                                                                                                                                                                    refl,
                                                                                                                                                                                                                                                    (
                                                                                                                                                                                                                                                      refl,
                                                                                                                                                                                                                                                      (
                                                                                                                                                                                                                                                        refl,
                                                                                                                                                                                                                                                        (
                                                                                                                                                                                                                                                          refl,
                                                                                                                                                                                                                                                          (
                                                                                                                                                                                                                                                            refl,
                                                                                                                                                                                                                                                            (
                                                                                                                                                                                                                                                              refl,
                                                                                                                                                                                                                                                              (
                                                                                                                                                                                                                                                                refl,
                                                                                                                                                                                                                                                                (
                                                                                                                                                                                                                                                                  refl,
                                                                                                                                                                                                                                                                  (
                                                                                                                                                                                                                                                                    refl,
                                                                                                                                                                                                                                                                    (
                                                                                                                                                                                                                                                                      refl,
                                                                                                                                                                                                                                                                      (
                                                                                                                                                                                                                                                                        refl,
                                                                                                                                                                                                                                                                        (
                                                                                                                                                                                                                                                                          refl,
                                                                                                                                                                                                                                                                          (
                                                                                                                                                                                                                                                                            refl,
                                                                                                                                                                                                                                                                            (
                                                                                                                                                                                                                                                                              refl,
                                                                                                                                                                                                                                                                              (
                                                                                                                                                                                                                                                                                refl,
                                                                                                                                                                                                                                                                                (
                                                                                                                                                                                                                                                                                  refl,
                                                                                                                                                                                                                                                                                  (
                                                                                                                                                                                                                                                                                    refl,
                                                                                                                                                                                                                                                                                    (
                                                                                                                                                                                                                                                                                      refl,
                                                                                                                                                                                                                                                                                      (
                                                                                                                                                                                                                                                                                        refl,
                                                                                                                                                                                                                                                                                        (
                                                                                                                                                                                                                                                                                          refl,
                                                                                                                                                                                                                                                                                          (
                                                                                                                                                                                                                                                                                            refl,
                                                                                                                                                                                                                                                                                            (
                                                                                                                                                                                                                                                                                              refl,
                                                                                                                                                                                                                                                                                              (
                                                                                                                                                                                                                                                                                                refl,
                                                                                                                                                                                                                                                                                                (
                                                                                                                                                                                                                                                                                                  refl,
                                                                                                                                                                                                                                                                                                  (
                                                                                                                                                                                                                                                                                                    refl,
                                                                                                                                                                                                                                                                                                    (
                                                                                                                                                                                                                                                                                                      refl,
                                                                                                                                                                                                                                                                                                      (
                                                                                                                                                                                                                                                                                                        refl,
                                                                                                                                                                                                                                                                                                        (
                                                                                                                                                                                                                                                                                                          refl,
                                                                                                                                                                                                                                                                                                          (
                                                                                                                                                                                                                                                                                                            refl,
                                                                                                                                                                                                                                                                                                            (
                                                                                                                                                                                                                                                                                                              refl,
                                                                                                                                                                                                                                                                                                              (
                                                                                                                                                                                                                                                                                                                refl,
                                                                                                                                                                                                                                                                                                                (
                                                                                                                                                                                                                                                                                                                  refl,
                                                                                                                                                                                                                                                                                                                  (
                                                                                                                                                                                                                                                                                                                    refl,
                                                                                                                                                                                                                                                                                                                    (refl, (refl, (refl, (refl, (refl, (refl, (refl, (refl, (refl, (refl, (refl, tt))))))))))),
                                                                                                                                                                                                                                                                                                                  ),
                                                                                                                                                                                                                                                                                                                ),
                                                                                                                                                                                                                                                                                                              ),
                                                                                                                                                                                                                                                                                                            ),
                                                                                                                                                                                                                                                                                                          ),
                                                                                                                                                                                                                                                                                                        ),
                                                                                                                                                                                                                                                                                                      ),
                                                                                                                                                                                                                                                                                                    ),
                                                                                                                                                                                                                                                                                                  ),
                                                                                                                                                                                                                                                                                                ),
                                                                                                                                                                                                                                                                                              ),
                                                                                                                                                                                                                                                                                            ),
                                                                                                                                                                                                                                                                                          ),
                                                                                                                                                                                                                                                                                        ),
                                                                                                                                                                                                                                                                                      ),
                                                                                                                                                                                                                                                                                    ),
                                                                                                                                                                                                                                                                                  ),
                                                                                                                                                                                                                                                                                ),
                                                                                                                                                                                                                                                                              ),
                                                                                                                                                                                                                                                                            ),
                                                                                                                                                                                                                                                                          ),
                                                                                                                                                                                                                                                                        ),
                                                                                                                                                                                                                                                                      ),
                                                                                                                                                                                                                                                                    ),
                                                                                                                                                                                                                                                                  ),
                                                                                                                                                                                                                                                                ),
                                                                                                                                                                                                                                                              ),
                                                                                                                                                                                                                                                            ),
                                                                                                                                                                                                                                                          ),
                                                                                                                                                                                                                                                        ),
                                                                                                                                                                                                                                                      ),
                                                                                                                                                                                                                                                    ),
                                                                                                                                                                                                                                                  ),
                                                                                                                                                                                                                                                ),
                                                                                                                                                                                                                                              ),
                                                                                                                                                                                                                                            ),
                                                                                                                                                                                                                                          ),
                                                                                                                                                                                                                                        ),
                                                                                                                                                                                                                                      ),
                                                                                                                                                                                                                                    ),
                                                                                                                                                                                                                                  ),
                                                                                                                                                                                                                                ),
                                                                                                                                                                                                                              ),
                                                                                                                                                                                                                            ),
                                                                                                                                                                                                                          ),
                                                                                                                                                                                                                        ),
                                                                                                                                                                                                                      ),
                                                                                                                                                                                                                    ),
                                                                                                                                                                                                                  ),
                                                                                                                                                                                                                ),
                                                                                                                                                                                                              ),
                                                                                                                                                                                                            ),
                                                                                                                                                                                                          ),
                                                                                                                                                                                                        ),
                                                                                                                                                                                                      ),
                                                                                                                                                                                                    ),
                                                                                                                                                                                                  ),
                                                                                                                                                                                                ),
                                                                                                                                                                                              ),
                                                                                                                                                                                            ),
                                                                                                                                                                                          ),
                                                                                                                                                                                        ),
                                                                                                                                                                                      ),
                                                                                                                                                                                    ),
                                                                                                                                                                                  ),
                                                                                                                                                                                ),
                                                                                                                                                                              ),
                                                                                                                                                                            ),
                                                                                                                                                                          ),
                                                                                                                                                                        ),
                                                                                                                                                                      ),
                                                                                                                                                                    ),
                                                                                                                                                                  ),
                                                                                                                                                                ),
                                                                                                                                                              ),
                                                                                                                                                            ),
                                                                                                                                                          ),
                                                                                                                                                        ),
                                                                                                                                                      ),
                                                                                                                                                    ),
                                                                                                                                                  ),
                                                                                                                                                ),
                                                                                                                                              ),
                                                                                                                                            ),
                                                                                                                                          ),
                                                                                                                                        ),
                                                                                                                                      ),
                                                                                                                                    ),
                                                                                                                                  ),
                                                                                                                                ),
                                                                                                                              ),
                                                                                                                            ),
                                                                                                                          ),
                                                                                                                        ),
                                                                                                                      ),
                                                                                                                    ),
                                                                                                                  ),
                                                                                                                ),
                                                                                                              ),
                                                                                                            ),
                                                                                                          ),
                                                                                                        ),
                                                                                                      ),
                                                                                                    ),
                                                                                                  ),
                                                                                                ),
                                                                                              ),
                                                                                            ),
                                                                                          ),
                                                                                        ),
                                                                                      ),
                                                                                    ),
                                                                                  ),
                                                                                ),
                                                                              ),
                                                                            ),
                                                                          ),
                                                                        ),
                                                                      ),
                                                                    ),
                                                                  ),
                                                                ),
                                                              ),
                                                            ),
                                                          ),
                                                        ),
                                                      ),
                                                    ),
                                                  ),
                                                ),
                                              ),
                                            ),
                                          ),
                                        ),
                                      ),
                                    ),
                                  ),
                                ),
                              ),
                            ),
                          ),
                        ),
                      ),
                    ),
                  ),
                ),
              ),
            ),
          ),
        ),
      ),
    ),
  ),
)

if_narrow : (b : Bool) (row : ℕ × Shape) (o : Option (ℕ × Shape)) → IsNarrow row.1 → IsNarrow (option_map_or (λ r. r.1) o NotPlain) → IsNarrow (option_map_or (λ r. r.1) (if b then Some row else o) NotPlain)
if_narrow true row o h k = h
if_narrow false row o h k = k

found_narrow : (rows : List (ℕ × Shape)) (opcode : ℕ) → AreNarrow rows → IsNarrow (option_map_or (λ r. r.1) (find (λ r. r.0 == opcode) rows) NotPlain)
found_narrow [] opcode h = tt
found_narrow (row ∷ rows) opcode (h, more) = if_narrow (row.0 == opcode) row (find (λ r. r.0 == opcode) rows) h (found_narrow rows opcode more)

shape_narrow : (opcode : ℕ) → IsNarrow (shape One opcode)
unfolding shape
shape_narrow opcode = found_narrow (opcodes One) opcode rows_narrow

takes_narrow : (s : Shape) (i : Instr) (bytes rest : List ℕ) → IsNarrow s → TakesShape s i bytes rest → is_bulk i ≡ false
takes_narrow (Alone j) i bytes rest n t = ap is_bulk t.0 ∙ n
takes_narrow (WithIndex make) i bytes rest n (x, e, spelled) = ap is_bulk e ∙ n x
takes_narrow WithLabels i bytes rest n (labels, l, mid, e, spelled, last) = ap is_bulk e
takes_narrow (WithAddress make) i bytes rest n (a, mid, e, spelled, last) = ap is_bulk e ∙ n a
takes_narrow (WithZero j) i bytes rest n t = ap is_bulk t.0 ∙ n
takes_narrow WithI32 i bytes rest n (z, e, spelled) = ap is_bulk e
takes_narrow WithI64 i bytes rest n (z, e, spelled) = ap is_bulk e
takes_narrow (WithBytes m j) i bytes rest n t = ap is_bulk t.0 ∙ n
takes_narrow Prefixed i bytes rest n t = absurd n
takes_narrow NotPlain i bytes rest n t = absurd t

-- ---- code, functions, modules

both : (a b : Bool) → a ≡ false → b ≡ false → a || b ≡ false
both a b e f = rw (e, f) refl

code_narrow : (k : Closer) (c : Code) (bytes rest : List ℕ) → TakesCode One k c bytes rest → code_uses_bulk c ≡ false
code_narrow k End bytes rest h = refl
code_narrow k (Plain i more) bytes rest (mid, t, h) =
    both (is_bulk i) (code_uses_bulk more) (takes_narrow (shape One t.opcode) i t.after mid (shape_narrow t.opcode) t.follows) (code_narrow k more mid rest h)
code_narrow k (Block t body more) bytes rest (after, e, inner, of_type, mid, h, later) =
    both (code_uses_bulk body) (code_uses_bulk more) (code_narrow ByEnd body inner mid h) (code_narrow k more mid rest later)
code_narrow k (Loop t body more) bytes rest (after, e, inner, of_type, mid, h, later) =
    both (code_uses_bulk body) (code_uses_bulk more) (code_narrow ByEnd body inner mid h) (code_narrow k more mid rest later)
code_narrow k (If t first second more) bytes rest (after, e, inner, of_type, mid, inl (h, none), later) =
    both (code_uses_bulk first || code_uses_bulk second) (code_uses_bulk more)
    (both (code_uses_bulk first) (code_uses_bulk second) (code_narrow ByEnd first inner mid h) (ap code_uses_bulk none)) (code_narrow k more mid rest later)
code_narrow k (If t first second more) bytes rest (after, e, inner, of_type, mid, inr (middle, h, g), later) =
    both (code_uses_bulk first || code_uses_bulk second) (code_uses_bulk more)
    (both (code_uses_bulk first) (code_uses_bulk second) (code_narrow ByElse first inner middle h) (code_narrow ByEnd second middle mid g)) (code_narrow k more mid rest later)
code_narrow k (Call x more) bytes rest (after, e, mid, spelled, later) = code_narrow k more mid rest later
code_narrow k (CallIndirect x more) bytes rest (after, e, mid, spelled, later) = code_narrow k more mid rest later

bodies_narrow : (functions : List FunctionTree) (bytes rest : List ℕ) → TakesEach (TakesSizedBody One) (map body_of functions) bytes rest → list_any (λ f. code_uses_bulk f.body) functions ≡ false
bodies_narrow [] bytes rest h = refl
bodies_narrow (f ∷ functions) bytes rest (mid, sized, more) =
    both (code_uses_bulk f.body) (list_any (λ g. code_uses_bulk g.body) functions)
    (code_narrow ByEnd f.body sized.body.mid [] sized.body.code) (bodies_narrow functions mid rest more)

functions_narrow : (functions : List FunctionTree) (o : Option Section) → SpellsVec (TakesSizedBody One) (map body_of functions) o → list_any (λ f. code_uses_bulk f.body) functions ≡ false
functions_narrow [] o h = refl
functions_narrow (f ∷ functions) None h = absurd (cc)
functions_narrow (f ∷ functions) (Some s) h = bodies_narrow (f ∷ functions) h.mid [] h.items

pub spelled_narrow : (bytes : List ℕ) (m : ModuleTree) → Spells One bytes m → uses_bulk m ≡ false
spelled_narrow bytes m spells = functions_narrow m.functions (section 10 spells.sections) spells.fields.bodies

-- so its instructions mark at most two blocks each
pub few_marks_of : (bytes : List ℕ) (m : ModuleTree) → Spells One bytes m → IsSupported One m → HasFewMarks m
few_marks_of bytes m spells supported = record {
  imports = subst (λ (imports : List Import). All (λ i. host_function i ≢ Some host.Read) imports) (sym supported.imports) (All-nil (λ i. host_function i ≢ Some host.Read));
  bulk = spelled_narrow bytes m spells;
}

-- ---- what a module that copies and fills nothing has

pub neither : (a b : Bool) → a || b ≡ false → (a ≡ false) × (b ≡ false)
neither false b e = (refl, e)
neither true b e = absurd (cc)

pub narrow_function : (functions : List FunctionTree) (x : ℕ) (f : FunctionTree) → list_any (λ g. code_uses_bulk g.body) functions ≡ false → slice_get functions x ≡ Some f → code_uses_bulk f.body ≡ false
narrow_function [] x f e there = absurd (cc)
narrow_function (g ∷ functions) zero f e there =
    let same : g ≡ f = cc in
    subst (λ (h : FunctionTree). code_uses_bulk h.body ≡ false) same (neither (code_uses_bulk g.body) (list_any (λ h. code_uses_bulk h.body) functions) e).0
narrow_function (g ∷ functions) (suc x) f e there =
    narrow_function functions x f (neither (code_uses_bulk g.body) (list_any (λ h. code_uses_bulk h.body) functions) e).1 there
