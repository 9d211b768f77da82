-- The thirteen marked examples follow from the definitions, by computation.
use mathlib.Core.Path.{refl}
use Rattle.bits.specs.Bits.{bit_of}
use Rattle.bits.specs.Below.{all_below, count_below}
use Rattle.text.specs.Words.{starts_with, word_at}
use Rattle.numeral.specs.Digits.{digits_in, digits, signed_digits}
use Rattle.numeral.specs.Reading.{run, value_from, well_formed, number_in, number_from, number_at, unsigned, negated, signed_from, signed_at}
use Rattle.peers.specs.Peers.{peers_kept}
use Rattle.flights.specs.Flights.{flight_within, flights_kept}
use Rattle.moment.specs.Moment.{in_range, larger_of, smaller_of, floor_half}
use Rattle.moment.specs.Intervals.{share_one, edges_within, both_in_range}
use Rattle.rules.specs.Rules.{widened, bracket, conflicting, narrowed, outward, no_wider, adopted, told, centre, error_of}
use Rattle.rules.specs.Verdict.{judged_by, judged, leaves}
use Rattle.command.specs.Limits.{board_within, claim_within, ticks_within, tag_within, limited}
use Rattle.command.specs.Causes.{first, own_causes}
use Rattle.shapes.specs.Shapes.{rule_at, end_at, read_parts, shaped_from}
use Rattle.reader.specs.Reading.{parse_as, parse, reading_of}
use Rattle.keeper.specs.State.{numbers_kept, counts_as_started, state_of, fresh}
use Rattle.keeper.specs.Refusals.{reply_bracket, reply_verdict, keeper_causes, causes, refusal}
use Rattle.keeper.specs.Apply.{begun, changed, passed_to, asked, ended, replied, accepted, apply}
use Rattle.writing.specs.Puts.{pair}
use Rattle.answers.specs.Answers.{line_of, edges_line}
use Rattle.line.specs.Call.{answered}
use Rattle.line.specs.Examples.{keeper_of, answer_of, examples, Answered}

pub marked : Answered examples
unfolding starts_with word_at digits_in digits signed_digits run value_from well_formed number_in number_from number_at unsigned negated signed_from signed_at in_range larger_of smaller_of share_one floor_half board_within claim_within ticks_within tag_within edges_within limited rule_at end_at read_parts parse_as parse shaped_from reading_of widened bracket conflicting narrowed outward no_wider adopted both_in_range judged_by judged leaves told centre error_of bit_of all_below count_below peers_kept flight_within flights_kept numbers_kept counts_as_started state_of fresh first own_causes reply_bracket reply_verdict keeper_causes causes refusal begun changed passed_to asked ended replied accepted apply line_of pair edges_line answered keeper_of answer_of
marked = (refl, (refl, (refl, (refl, (refl, (refl, (refl, (refl, (refl, (refl, (refl, (refl, (refl, tt)))))))))))))
