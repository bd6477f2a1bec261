-- Lines of refused files that were written by hand.
use Rattle.std.proofs.Common.{◌≡◌, List, ℕ, ◌++◌, refl, codes}
use Rattle.std.specs.Fmt.{digits}
use Rattle.request_text.specs.declared.request.Reason.{Reason}
use Rattle.request_text.specs.declared.request.Reason.TheVariants as why
use Rattle.request_text.specs.Text.{BadLine, FileTooLong}
use Rattle.request_text.specs.Refusal.{refusal_line}

abbrev refused_for : Reason → List ℕ
refused_for reason = refusal_line (BadLine 12 reason)

reasons_are : refused_for why.BadByte ++ refused_for why.UnknownDirective ++ refused_for why.LateProfile ++ refused_for why.BadProfile ++ refused_for why.BadWords ++ refused_for why.BadName ++ refused_for why.BadHex ++ refused_for why.BadShare ++ refused_for why.NameUsedTwice
    ≡ codes "line 12: bad byte\nline 12: unknown directive\nline 12: late profile\nline 12: bad profile\nline 12: bad words\nline 12: bad name\nline 12: bad hex\nline 12: bad share\nline 12: name used twice\n"
unfolding digits
reasons_are = refl

other_reasons_are : refused_for why.TooManyModules ++ refused_for why.TooManyTenants ++ refused_for why.ShareTooLarge ++ refused_for why.UnknownModule ++ refused_for why.UnknownTenant ++ refused_for why.RetiredTwice ++ refused_for why.BadFuel ++ refused_for why.BadRequest ++ refused_for why.RequestTooLong ++ refused_for why.BadArgument ++ refused_for why.TooManyCalls ++ refusal_line FileTooLong
    ≡ codes "line 12: too many modules\nline 12: too many tenants\nline 12: share too large\nline 12: unknown module\nline 12: unknown tenant\nline 12: retired twice\nline 12: bad fuel\nline 12: bad request\nline 12: request too long\nline 12: bad argument\nline 12: too many calls\nfile too long\n"
unfolding digits
other_reasons_are = refl
