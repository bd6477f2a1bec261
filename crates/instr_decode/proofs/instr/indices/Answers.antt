use Rattle.std.proofs.Common.{◌≡◌, ℕ, ◌+◌, inl, [], ◌∷◌, ◌++◌, length, ap, ◌∙◌, arith}
use Rattle.std.proofs.lemmas.List.{length_push}
use Rattle.wasm_spec.specs.Numbers.{TakesUnsigned}
use Rattle.wasm_spec.proofs.UnambiguousNumbers.{unsigned-unique}
use Rattle.leb_read.specs.Reading.{rest}
use Rattle.instr_decode.specs.declared.fault.DecodeFault.TheVariants.{Malformed}
use Rattle.instr_decode.proofs.Decoding.{exits, vec-none, each-more}
use Rattle.instr_decode.proofs.Wants.{vec-wants}
use Rattle.instr_decode.proofs.instr.indices.Goals as goal

pub returns-in_err-index-clause-read : goal.returns-in_err-index-clause-read
returns-in_err-index-clause-read c =
    exits c.from_residual-in_err-index.result _ _ Malformed c.from_residual-in_err-index.ensures.1
    (vec-none (TakesUnsigned 32) (unsigned-unique 32) Malformed c.loop.indices.items (rest c.args.cursor.now) (rest c.u32.new.self) (rest c.loop.cursor) c.in_ok-count.count
    c.in_ok-count.ensures.spelled c.loop.invariant.so_far (omega (arith, c.loop.invariant.long, c.loop-test.true)) c.in_err-index.ensures.none)

pub returns-in_err-push-clause-wanted : goal.returns-in_err-push-clause-wanted
returns-in_err-push-clause-wanted c = λ e.
    vec-wants (TakesUnsigned 32) (λ _. ⊥) c.loop.indices.items (rest c.args.cursor.now) (rest c.u32.new.self) (rest c.loop.cursor) c.in_ok-count.count
    c.in_ok-count.ensures.spelled c.loop.invariant.so_far (omega (arith, c.loop.invariant.long, c.loop-test.true))
    (inl (record { item = c.in_ok-index.index; after = rest c.u32-in-loop.new.self; spelled = c.in_ok-index.ensures.spelled }))

pub loop-preserved : goal.loop-preserved
loop-preserved c =
    let indices = c.loop.indices.items in
    let index = c.in_ok-index.index in
    let e : c.push.new.self.items ≡ indices ++ index ∷ [] = c.in_ok-push.ensures.items in
    record {
      whole = c.in_ok-index.ensures.whole ∙ c.loop.invariant.whole;
      forth = omega (arith, c.in_ok-index.ensures.forth, c.loop.invariant.forth);
      within = c.in_ok-index.ensures.within;
      so_far = rw e (each-more (TakesUnsigned 32) indices index (rest c.u32.new.self) (rest c.loop.cursor) (rest c.u32-in-loop.new.self) c.loop.invariant.so_far c.in_ok-index.ensures.spelled);
      long = ap length e ∙ length_push indices index ∙ ap (λ (n : ℕ). n + 1) c.loop.invariant.long;
    }
