-- The line of each answer: document 01, 'The calls' and 'Causes of a refusal', and document 02, orders 3, 6 and 7.
use Rattle.std.specs.Prelude.{◌≡◌, List, ◌++◌, ℕ}
use Rattle.text.specs.Words.{bytes}
use Rattle.numeral.specs.Digits.{digits}
use Rattle.moment.specs.declared.Interval.{Interval}
use Rattle.rules.specs.declared.Finding.{Finding}
use Rattle.rules.specs.declared.Finding.TheVariants.{Conflict, Taken, Kept}
use Rattle.rules.specs.declared.WindowState.{WindowState}
use Rattle.rules.specs.declared.WindowState.TheVariants.{Open, Shut, Unsure}
use Rattle.writing.specs.Puts.{pair}
use Rattle.waiting_lines.specs.ByTag.{by_tag, SmallestTagFirst}
use Rattle.waiting_lines.specs.Waiting.{waiting_line}
use Rattle.keeper.specs.declared.Keeper.{Keeper}
use Rattle.keeper.specs.declared.Answer.{Answer}
use Rattle.keeper.specs.declared.Answer.TheVariants as A

-- '(WORD N (LOWER UPPER))', where `word` is the bracket, the word and a space
unfoldable pub edges_line : List ℕ → ℕ → Interval → List ℕ
edges_line word n edges = word ++ digits n ++ bytes " " ++ pair edges.lower edges.upper ++ bytes ")"

-- '(WORD N)', where `word` is the bracket, the word and a space
abbrev pub numbered : List ℕ → ℕ → List ℕ
numbered word n = word ++ digits n ++ bytes ")"

-- the word of each finding
abbrev pub finding_word : Finding → List ℕ
finding_word Conflict = bytes "(conflict "
finding_word Taken = bytes "(taken "
finding_word Kept = bytes "(kept "

-- '`(open SLOT)` .., `(shut SLOT)` .., and otherwise `(unsure SLOT)`': the bracket, the word and a space
abbrev pub window_word : WindowState → List ℕ
window_word Open = bytes "(open "
window_word Shut = bytes "(shut "
window_word Unsure = bytes "(unsure "

-- 'The list now runs by tag, smallest first': the peers that wait with tag 1, then those that wait with tag 2, and so on through the requests sent.
unfoldable pub oldest_first : Keeper → List ℕ
oldest_first k = by_tag k.waiting k.tags k.requests

-- The line of the answer of a call that leaves the keeper, without its LF.
unfoldable pub line_of : Answer → Keeper → List ℕ
line_of (A.Started board) k = bytes "(started " ++ digits board ++ bytes ")"
line_of (A.At ticks edges) k = edges_line (bytes "(at ") ticks edges
line_of (A.Sent peer tag) k = bytes "(sent " ++ digits peer ++ bytes " " ++ digits tag ++ bytes ")"
line_of (A.Replied peer verdict) k = edges_line (finding_word verdict.finding) peer verdict.edges
line_of (A.Dropped peer) k = bytes "(dropped " ++ digits peer ++ bytes ")"
line_of (A.Time edges centre error conflicts waiting) k =
    bytes "(time "
    ++ pair edges.lower edges.upper
    ++ bytes " "
    ++ pair centre error
    ++ bytes " "
    ++ digits conflicts
    ++ bytes " "
    ++ digits waiting
    ++ bytes ")"
line_of A.Waiting k = waiting_line k.tags (oldest_first k)
line_of (A.Heater slot window) k = window_word window ++ digits slot ++ bytes ")"
line_of (A.Flight peer) k = bytes "(flight " ++ digits peer ++ bytes ")"
line_of (A.Refused n) k = bytes "(no " ++ digits n ++ bytes ")"

-- Of a keeper that counts as started `oldest_first` is the one list that has each waiting peer exactly once and no other, and along which the tags
-- rise.
pub record OneList (k : Keeper) : Type 0 where
  pub is_one : SmallestTagFirst k.waiting k.tags (oldest_first k)
  pub no_other : (order : List ℕ) → SmallestTagFirst k.waiting k.tags order → order ≡ oldest_first k
