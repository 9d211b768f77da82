-- Order 4's own spellings, in lines: what each line is read as.
use mathlib.Core.Path.{◌≡◌, refl}
use lib.IntN.{pos, negsuc}
use Rattle.std.specs.Prelude.{Ok}
use Rattle.refusal.specs.Refusal.{number_of}
use Rattle.text.specs.Words.{bytes, starts_with, word_at}
use Rattle.numeral.specs.Reading.{run, value_from, well_formed, first_group, ended_at, groups_from, number_in, number_from, number_at, unsigned, negated, signed_from, signed_at}
use Rattle.moment.specs.Moment.{in_range}
use Rattle.moment.specs.Intervals.{interval, edges_within}
use Rattle.command.specs.Limits.{limited, board_within, claim_within, ticks_within}
use Rattle.command.specs.declared.Command.TheVariants as C
use Rattle.rules.specs.declared.Rule.TheVariants.{Im}
use Rattle.reader.specs.Reading.{rule_at, end_at, read_parts, parse_as, parse, reading_of}

-- '`1_000` is good': as ticks, as a claim and as an edge, beside plain numerals
pub ticks_grouped : reading_of (bytes "(pass 1_000)") ≡ Ok (C.Pass 1000)
unfolding starts_with word_at run value_from well_formed first_group ended_at groups_from number_in number_from number_at unsigned negated signed_from signed_at in_range edges_within board_within claim_within ticks_within limited rule_at end_at read_parts parse_as parse reading_of
ticks_grouped = refl

pub start_grouped : reading_of (bytes "(start 3 im 1_000 (-1_000 1000))") ≡ Ok (C.Start 3 Im 1000 (interval (negsuc 999) (pos 1000)))
unfolding starts_with word_at run value_from well_formed first_group ended_at groups_from number_in number_from number_at unsigned negated signed_from signed_at in_range edges_within board_within claim_within ticks_within limited rule_at end_at read_parts parse_as parse reading_of
start_grouped = refl

-- '`12_7`, `1000_000` and `_100` are 1'
pub short_last : number_of (reading_of (bytes "(pass 12_7)")) ≡ 1
unfolding starts_with word_at run value_from well_formed first_group ended_at groups_from number_in number_from number_at unsigned negated signed_from signed_at in_range edges_within board_within claim_within ticks_within limited rule_at end_at read_parts parse_as parse reading_of
short_last = refl

pub long_first : number_of (reading_of (bytes "(pass 1000_000)")) ≡ 1
unfolding starts_with word_at run value_from well_formed first_group ended_at groups_from number_in number_from number_at unsigned negated signed_from signed_at in_range edges_within board_within claim_within ticks_within limited rule_at end_at read_parts parse_as parse reading_of
long_first = refl

pub no_first : number_of (reading_of (bytes "(pass _100)")) ≡ 1
unfolding starts_with word_at run value_from well_formed first_group ended_at groups_from number_in number_from number_at unsigned negated signed_from signed_at in_range edges_within board_within claim_within ticks_within limited rule_at end_at read_parts parse_as parse reading_of
no_first = refl
