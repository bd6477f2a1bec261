-- What a pass is as it is handed out.
use Rattle.std.proofs.Common.{◌≡◌, ℕ, []}
use Rattle.slot_words.specs.declared.words.Words.{Words}
use Rattle.slot_words.specs.Owned.{IsNewPassOf}
use Rattle.slot_words.specs.Passes.{Pass}
use Rattle.slot_words.specs.Views.{new_view}

pub new_pass : {V I : Type 0} (w : Words V I) (p : Pass V) (number : ℕ) → p.table_id ≡ w.table.shared.table_id → p.me ≡ (new_view w.table.shared.key number 0 1, []) → IsNewPassOf w p
new_pass w p number table me = record {
  own = λ i. record { table = table i; bounds = (me i).0.bounds; stage = (me i).0.seat.stage; unsplit = (me i).0.unsplit };
  idle = ((λ i. (me i).0.seat), (λ i. (me i).1));
  share_is = λ i. (me i).0.share;
  trail_is = λ i. (me i).0.trail;
  joined_is = λ i. (me i).0.joined;
}
