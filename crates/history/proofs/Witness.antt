-- The log counts each reply and drop by its own word, and a course stands at a kept reply whose bracket it does not lie in: by computation. The
-- sum of requests and the containment under mm do not tell these apart. With flight times a course lies in the shifted bracket.
use mathlib.Core.Path.{◌≡◌, refl}
use lib.IntN.{pos}
use lib.Signed.{le_z_yes}
use Rattle.bits.specs.Below.{count_below, updated}
use Rattle.text.specs.Words.{starts_with, word_at}
use Rattle.numeral.specs.Reading.{run, value_from, well_formed, number_in, number_from, number_at, unsigned, negated, signed_from, signed_at}
use Rattle.moment.specs.Moment.{in_range, larger_of, smaller_of}
use Rattle.moment.proofs.Integers.{ints}
use Rattle.moment.specs.Intervals.{share_one, edges_within, both_in_range}
use Rattle.rules.specs.Rules.{widened, bracket, conflicting, narrowed, outward, no_wider, adopted}
use Rattle.rules.specs.Verdict.{judged_by, judged, leaves}
use Rattle.flights.specs.Flights.{flight_within}
use Rattle.command.specs.Limits.{board_within, claim_within, ticks_within, tag_within, limited}
use Rattle.command.specs.Causes.{first, own_causes}
use Rattle.shapes.specs.Shapes.{rule_at, end_at, read_parts, shaped_from}
use Rattle.reader.specs.Reading.{parse_as, parse, reading_of}
use Rattle.keeper.specs.Refusals.{reply_bracket, reply_verdict, keeper_causes, causes, refusal}
use Rattle.history.specs.Log.{log_start, log_started, state_with, log_asked, log_ended, log_flight, log_replied, log_accepted, accepting, logged, log_after}
use Rattle.history.specs.Course.{no_course, courses_after, event_of}
use Rattle.history.specs.Witness.{kept_run, all_run, flight_run}

pub counted : let l = log_after log_start all_run in (l.taken ≡ 1) × (l.kept ≡ 1) × (l.state.conflicts ≡ 1) × (l.dropped ≡ 1) × (l.state.requests ≡ 4)
unfolding starts_with word_at run value_from well_formed number_in number_from number_at unsigned negated signed_from signed_at in_range larger_of smaller_of share_one board_within claim_within ticks_within tag_within edges_within limited rule_at end_at read_parts parse_as parse shaped_from reading_of widened bracket conflicting narrowed outward no_wider adopted both_in_range judged_by judged leaves count_below first own_causes reply_bracket reply_verdict keeper_causes causes refusal updated log_start log_started state_with log_asked log_ended log_replied log_accepted accepting logged log_after event_of
counted = (refl, refl, refl, refl, refl)

-- 60 lies from 0 through 2000100 and in the bracket 50 through 1000150 of the taken reply, and not in that of the kept one, which begins at 100
pub kept_stays : courses_after log_start no_course kept_run (pos 60)
unfolding starts_with word_at run value_from well_formed number_in number_from number_at unsigned negated signed_from signed_at in_range larger_of smaller_of share_one board_within claim_within ticks_within tag_within edges_within limited rule_at end_at read_parts parse_as parse shaped_from reading_of widened bracket conflicting narrowed outward no_wider adopted both_in_range judged_by judged leaves count_below first own_causes reply_bracket reply_verdict keeper_causes causes refusal updated log_start log_started state_with log_asked log_ended log_replied log_accepted accepting logged log_after event_of
kept_stays = (record { from = le_z_yes tt; through = le_z_yes tt }, record { from = le_z_yes tt; through = le_z_yes tt })

-- the first and the last moment of the bracket are reached, and those beside them are not
pub flight_reached : courses_after log_start no_course flight_run (pos 2050) × courses_after log_start no_course flight_run (pos 999150)
unfolding starts_with word_at run value_from well_formed number_in number_from number_at unsigned negated signed_from signed_at in_range larger_of smaller_of share_one board_within claim_within ticks_within tag_within edges_within flight_within limited rule_at end_at read_parts parse_as parse shaped_from reading_of widened bracket conflicting narrowed outward no_wider adopted both_in_range judged_by judged leaves count_below first own_causes reply_bracket reply_verdict keeper_causes causes refusal updated log_start log_started state_with log_asked log_ended log_flight log_replied log_accepted accepting logged log_after event_of
flight_reached =
    ((record { from = le_z_yes tt; through = le_z_yes tt }, record { from = le_z_yes tt; through = le_z_yes tt }), (record { from = le_z_yes tt; through = le_z_yes tt }, record { from = le_z_yes tt; through = le_z_yes tt }))

pub flight_beside : (courses_after log_start no_course flight_run (pos 2049) → ⊥) × (courses_after log_start no_course flight_run (pos 999151) → ⊥)
unfolding starts_with word_at run value_from well_formed number_in number_from number_at unsigned negated signed_from signed_at in_range larger_of smaller_of share_one board_within claim_within ticks_within tag_within edges_within flight_within limited rule_at end_at read_parts parse_as parse shaped_from reading_of widened bracket conflicting narrowed outward no_wider adopted both_in_range judged_by judged leaves count_below first own_causes reply_bracket reply_verdict keeper_causes causes refusal updated log_start log_started state_with log_asked log_ended log_flight log_replied log_accepted accepting logged log_after event_of
flight_beside = ((λ s. omega (ints, s.1.from)), (λ s. omega (ints, s.1.through)))
