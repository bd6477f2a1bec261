-- What is written down of a run: the entries of its modules, and the lines of its calls.
use Rattle.std.specs.Prelude.{◌≡◌, ℕ, ◌<◌, ◌≤◌, List, drop, length, slice_get, take, Option, Some, None}
use Rattle.module_store.specs.declared.desk.DeskCounts.{DeskCounts}
use Rattle.pool_limits.specs.declared.numbers.Numbers.{Numbers}
use Rattle.request_text.specs.declared.request.Directive.{Directive}
use Rattle.request_text.specs.Text.{Asked, call_count, modules_of}
use Rattle.report_text.specs.declared.report.CallLine.{CallLine}
use Rattle.run_books.specs.declared.books.Books.{Books}
use Rattle.run_books.specs.declared.books.Registry.{Registry}
use Rattle.run_books.specs.declared.books.Span.{Span}
use Rattle.run_books.specs.Collected.{HasLine, IsBoard}
use Rattle.run_books.specs.Entries.{AreEntries, AreTagged, Entry}
use Rattle.run_books.specs.Lines.{Limits, limits_in}

-- all directives of a file
abbrev pub whole_file : Asked → Span
whole_file asked = record { from = 0; to = length asked.directives; calls = 0 }

-- a round's directives among all, and how many calls stand before them
pub record IsSpan (all : List Directive) (span : Span) : Type 0 where
  pub order : span.from ≤ span.to
  pub within : span.to ≤ length all
  pub calls_are : span.calls ≡ call_count (take span.from all)

abbrev pub directives_in : List Directive → Span → List Directive
directives_in all span = drop span.from (take span.to all)

-- how many calls a round has
abbrev pub calls_in : List Directive → Span → ℕ
calls_in all span = call_count (directives_in all span)

module _ (limits : Limits) (all : List Directive) where
  -- the entries of the modules among so many directives, the first, each accepted one with a tag of its own, at a desk that may register all modules
  pub record AreEntered (place : ℕ) (entries : List Entry) (desk : DeskCounts) : Type 0 where
    pub are : AreEntries limits (modules_of (take place all)) entries
    pub tagged : AreTagged entries desk.registered
    pub room : length (modules_of all) ≤ desk.most

  -- a board that has the lines of so many calls, the first, some of those of the calls behind them, and from the last number on none
  pub record HasLines (made last : ℕ) (board : List (Option CallLine)) : Type 0 where
    pub board_is : IsBoard limits all board
    pub done : (at : ℕ) → at < made → HasLine board at
    pub free : (at : ℕ) → last ≤ at → at < length board → slice_get board at ≡ Some None

module _ {N : Type 0} (config : Numbers) (asked : Asked) where
  -- a registry that has the entries of so many of the file's directives, the first
  abbrev pub HasEntered : (place : ℕ) → Registry N → Type 0
  HasEntered place registry = AreEntered (limits_in asked.profile config) asked.directives place registry.entries.items registry.desk

  -- such a registry, and a board that has the lines of so many calls, the first, some of those of the calls behind them, and from the last number on none
  pub record AreBooks (place made last : ℕ) (books : Books N) : Type 0 where
    pub entered : HasEntered place books.registry
    pub lines : HasLines (limits_in asked.profile config) asked.directives made last books.board
