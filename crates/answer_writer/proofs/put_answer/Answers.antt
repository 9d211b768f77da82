-- In each arm the answer is the case that the line is of.
use Prim.Native.Nat.{◌<◌}
use native.Mathlib.Omega.{arith}
use borrow.Author.Rules.{rules}
use Rattle.text.specs.Words.{bytes}
use Rattle.moment.proofs.Integers.{got}
use Rattle.answers.specs.Answers.{line_of}
use Rattle.answers.proofs.LineLaws.{by_line, numbered_short}
use Rattle.answers.proofs.WaitersLaws.{list_put}
use Rattle.answer_writer.proofs.put_answer.Goals as goal

pub returns-in-Started : goal.returns-in-Started
unfolding line_of
returns-in-Started c =
    let n = c.in-Started.board in
    let fits : n < 256 = search rules in
    by_line c.in-Started.is (λ k. numbered_short (bytes "(started ") n (omega arith) fits c.numbered_line.ensures)

pub returns-in-At : goal.returns-in-At
returns-in-At c = by_line c.in-At.is c.at_line.ensures

pub returns-in-Sent : goal.returns-in-Sent
returns-in-Sent c = by_line c.in-Sent.is c.sent_line.ensures

pub returns-in-Replied : goal.returns-in-Replied
returns-in-Replied c = by_line c.in-Replied.is c.replied_line.ensures

pub returns-in-Dropped : goal.returns-in-Dropped
unfolding line_of
returns-in-Dropped c =
    let n = c.in-Dropped.peer in
    let fits : n < 256 = search rules in
    by_line c.in-Dropped.is (λ k. numbered_short (bytes "(dropped ") n (omega arith) fits c.numbered_line-in-Dropped.ensures)

pub returns-in-Time : goal.returns-in-Time
returns-in-Time c =
    let centre = got c.in-Time.centre (search rules) in
    let error = got c.in-Time.error (search rules) in
    by_line c.in-Time.is (rw (centre, error) at c.time_line.ensures)

pub returns-in-Waiting : goal.returns-in-Waiting
returns-in-Waiting c =
    let k = c.args.keeper in
    let is = c.in-Waiting.is in
    record { put = λ h. rw is (list_put k (h is) c.waiting_line.ensures) }

pub returns-in-Heater : goal.returns-in-Heater
returns-in-Heater c = by_line c.in-Heater.is c.heater_line.ensures

pub returns-in-Flight : goal.returns-in-Flight
unfolding line_of
returns-in-Flight c =
    let n = c.in-Flight.peer in
    let fits : n < 256 = search rules in
    by_line c.in-Flight.is (λ k. numbered_short (bytes "(flight ") n (omega arith) fits c.numbered_line-in-Flight.ensures)

pub returns-in-Refused : goal.returns-in-Refused
returns-in-Refused c = by_line c.in-Refused.is c.put_refusal.ensures
