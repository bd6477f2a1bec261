use Rattle.std.proofs.Common.{ℕ, ◌∷◌, ap, ◌∙◌, arith}
use Rattle.std.proofs.lemmas.Result.{err_from_is_err_and}
use Rattle.wasm_spec.specs.Numbers.{TakesUnsigned}
use Rattle.wasm_spec.specs.InstrGrammar.{TakesShape, shape}
use Rattle.wasm_spec.specs.TypeGrammar.{TakesBlockType}
use Rattle.leb_read.specs.Reading.{rest, TakesByte}
use Rattle.instr_decode.specs.Tokens.{TakesIndexAndZero, TakesToken}
use Rattle.instr_decode.specs.declared.token.BlockKind.TheVariants as block_kind
use Rattle.instr_decode.proofs.Decoding.{exits, read-both}
use Rattle.instr_decode.proofs.Tokens.{none-open, none-call, none-call_indirect}
use Rattle.instr_decode.proofs.token.read_token.Goals as goal

pub returns-in_err-block_type-in-2-clause-token : goal.returns-in_err-block_type-in-2-clause-token
returns-in_err-block_type-in-2-clause-token c =
    exits c.from_residual-in_err-block_type-in-2.result _ _ c.in_err-block_type-in-2.field-0.0 c.from_residual-in_err-block_type-in-2.ensures.1
    (none-open c.args.profile block_kind.Block (rest c.args.cursor.now) (rest c.u8.new.self) c.in_err-block_type-in-2.field-0.0 (c.in_ok-opcode.ensures.spelled ∙ ap (λ (n : ℕ). n ∷ rest c.u8.new.self) (omega arith)) c.in_err-block_type-in-2.ensures.read)

pub returns-in_err-block_type-in-3-clause-token : goal.returns-in_err-block_type-in-3-clause-token
returns-in_err-block_type-in-3-clause-token c =
    exits c.from_residual-in_err-block_type-in-3.result _ _ c.in_err-block_type-in-3.field-0.0 c.from_residual-in_err-block_type-in-3.ensures.1
    (none-open c.args.profile block_kind.Loop (rest c.args.cursor.now) (rest c.u8.new.self) c.in_err-block_type-in-3.field-0.0 (c.in_ok-opcode.ensures.spelled ∙ ap (λ (n : ℕ). n ∷ rest c.u8.new.self) (omega arith)) c.in_err-block_type-in-3.ensures.read)

pub returns-in_err-block_type-in-4-clause-token : goal.returns-in_err-block_type-in-4-clause-token
returns-in_err-block_type-in-4-clause-token c =
    exits c.from_residual-in_err-block_type-in-4.result _ _ c.in_err-block_type-in-4.field-0.0 c.from_residual-in_err-block_type-in-4.ensures.1
    (none-open c.args.profile block_kind.If (rest c.args.cursor.now) (rest c.u8.new.self) c.in_err-block_type-in-4.field-0.0 (c.in_ok-opcode.ensures.spelled ∙ ap (λ (n : ℕ). n ∷ rest c.u8.new.self) (omega arith)) c.in_err-block_type-in-4.ensures.read)

pub returns-in_err-index-in-16-clause-token : goal.returns-in_err-index-in-16-clause-token
returns-in_err-index-in-16-clause-token c =
    let p = err_from_is_err_and c.from_residual-in_err-index-in-16.result c.from_residual-in_err-index-in-16.ensures.1 in
    rw (p.1, p.2) (none-call c.args.profile (rest c.args.cursor.now) (rest c.u8.new.self) (c.in_ok-opcode.ensures.spelled ∙ ap (λ (n : ℕ). n ∷ rest c.u8.new.self) (omega arith)) c.in_err-index-in-16.ensures.none)

pub returns-in_err-index-in-17-clause-token : goal.returns-in_err-index-in-17-clause-token
returns-in_err-index-in-17-clause-token c =
    exits c.from_residual-in_err-index-in-17.result _ _ c.in_err-index-in-17.field-0.0 c.from_residual-in_err-index-in-17.ensures.1
    (none-call_indirect c.args.profile (rest c.args.cursor.now) (rest c.u8.new.self) c.in_err-index-in-17.field-0.0 (c.in_ok-opcode.ensures.spelled ∙ ap (λ (n : ℕ). n ∷ rest c.u8.new.self) (omega arith)) c.in_err-index-in-17.ensures.read)

pub returns-in_ok-block_type-in-2-clause-token : goal.returns-in_ok-block_type-in-2-clause-token
returns-in_ok-block_type-in-2-clause-token c =
    read-both TakesByte TakesBlockType (TakesToken c.args.profile) _ _ _ _ _ _ c.in_ok-opcode.ensures c.in_ok-block_type-in-2.ensures.read
    (λ a b. (rest c.u8.new.self, a ∙ ap (λ (n : ℕ). n ∷ rest c.u8.new.self) (omega arith), b))

pub returns-in_ok-block_type-in-3-clause-token : goal.returns-in_ok-block_type-in-3-clause-token
returns-in_ok-block_type-in-3-clause-token c =
    read-both TakesByte TakesBlockType (TakesToken c.args.profile) _ _ _ _ _ _ c.in_ok-opcode.ensures c.in_ok-block_type-in-3.ensures.read
    (λ a b. (rest c.u8.new.self, a ∙ ap (λ (n : ℕ). n ∷ rest c.u8.new.self) (omega arith), b))

pub returns-in_ok-block_type-in-4-clause-token : goal.returns-in_ok-block_type-in-4-clause-token
returns-in_ok-block_type-in-4-clause-token c =
    read-both TakesByte TakesBlockType (TakesToken c.args.profile) _ _ _ _ _ _ c.in_ok-opcode.ensures c.in_ok-block_type-in-4.ensures.read
    (λ a b. (rest c.u8.new.self, a ∙ ap (λ (n : ℕ). n ∷ rest c.u8.new.self) (omega arith), b))

pub returns-in_ok-index-in-16-clause-token : goal.returns-in_ok-index-in-16-clause-token
returns-in_ok-index-in-16-clause-token c =
    read-both TakesByte (TakesUnsigned 32) (TakesToken c.args.profile) _ _ _ _ _ _ c.in_ok-opcode.ensures c.in_ok-index-in-16.ensures
    (λ a b. (rest c.u8.new.self, a ∙ ap (λ (n : ℕ). n ∷ rest c.u8.new.self) (omega arith), b))

pub returns-in_ok-index-in-17-clause-token : goal.returns-in_ok-index-in-17-clause-token
returns-in_ok-index-in-17-clause-token c =
    read-both TakesByte TakesIndexAndZero (TakesToken c.args.profile) _ _ _ _ _ _ c.in_ok-opcode.ensures c.in_ok-index-in-17.ensures.read
    (λ a b. (rest c.u8.new.self, a ∙ ap (λ (n : ℕ). n ∷ rest c.u8.new.self) (omega arith), b))

pub returns-in_err-instr-in_default-clause-wanted : goal.returns-in_err-instr-in_default-clause-wanted
returns-in_err-instr-in_default-clause-wanted c = λ e.
    let p = err_from_is_err_and c.from_residual-in_err-instr-in_default.result c.from_residual-in_err-instr-in_default.ensures.1 in record {
      opcode = c.in_ok-opcode.opcode;
      after = rest c.u8.new.self;
      begins = c.in_ok-opcode.ensures.spelled;
      immediate = c.in_err-instr-in_default.ensures.wanted (cc);
    }

pub returns-in_ok-instr-in_default-clause-token : goal.returns-in_ok-instr-in_default-clause-token
returns-in_ok-instr-in_default-clause-token c =
    read-both TakesByte (TakesShape (shape c.args.profile c.in_ok-opcode.opcode)) (TakesToken c.args.profile) _ _ _ _ _ _ c.in_ok-opcode.ensures c.in_ok-instr-in_default.ensures.read
    (λ a b. record { opcode = c.in_ok-opcode.opcode; after = rest c.u8.new.self; leads = a; follows = b })
