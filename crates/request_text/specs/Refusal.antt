-- The line that tells why a request file is refused. It ends in LF.
use Rattle.std.specs.Prelude.{ℕ, List, ◌++◌, codes}
use Rattle.std.specs.Fmt.{decimal}
use Rattle.request_text.specs.declared.request.Reason.{Reason}
use Rattle.request_text.specs.declared.request.Reason.TheVariants as why
use Rattle.request_text.specs.Text.{BadLine, FileRefusal, FileTooLong}

abbrev pub reason_text : Reason → List ℕ
reason_text why.BadByte = codes "bad byte"
reason_text why.UnknownDirective = codes "unknown directive"
reason_text why.LateProfile = codes "late profile"
reason_text why.BadProfile = codes "bad profile"
reason_text why.BadWords = codes "bad words"
reason_text why.BadName = codes "bad name"
reason_text why.BadHex = codes "bad hex"
reason_text why.BadShare = codes "bad share"
reason_text why.NameUsedTwice = codes "name used twice"
reason_text why.TooManyModules = codes "too many modules"
reason_text why.TooManyTenants = codes "too many tenants"
reason_text why.ShareTooLarge = codes "share too large"
reason_text why.UnknownModule = codes "unknown module"
reason_text why.UnknownTenant = codes "unknown tenant"
reason_text why.RetiredTwice = codes "retired twice"
reason_text why.BadFuel = codes "bad fuel"
reason_text why.BadRequest = codes "bad request"
reason_text why.RequestTooLong = codes "request too long"
reason_text why.BadArgument = codes "bad argument"
reason_text why.TooManyCalls = codes "too many calls"

-- `file too long`, or `line N: reason`
abbrev pub refusal_line : FileRefusal → List ℕ
refusal_line FileTooLong = codes "file too long\n"
refusal_line (BadLine line reason) = codes "line " ++ decimal line ++ codes ": " ++ reason_text reason ++ codes "\n"
