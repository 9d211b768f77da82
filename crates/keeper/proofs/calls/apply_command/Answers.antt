-- Each arm is the call of its command.
use Rattle.keeper.proofs.calls.apply_command.Goals as goal

pub returns-in-Start : goal.returns-in-Start
returns-in-Start c =
    rw c.in-Start.is c.start.ensures

pub returns-in-Pass : goal.returns-in-Pass
returns-in-Pass c =
    rw c.in-Pass.is c.pass.ensures

pub returns-in-Request : goal.returns-in-Request
returns-in-Request c =
    rw c.in-Request.is c.request.ensures

pub returns-in-Reply : goal.returns-in-Reply
returns-in-Reply c =
    rw c.in-Reply.is c.reply.ensures

pub returns-in-Drop : goal.returns-in-Drop
returns-in-Drop c =
    rw c.in-Drop.is c.drop.ensures

pub returns-in-Read : goal.returns-in-Read
returns-in-Read c =
    rw c.in-Read.is c.read.ensures

pub returns-in-Waiting : goal.returns-in-Waiting
returns-in-Waiting c =
    rw c.in-Waiting.is c.waiting.ensures

pub returns-in-Window : goal.returns-in-Window
returns-in-Window c =
    rw c.in-Window.is c.window.ensures

pub returns-in-Flight : goal.returns-in-Flight
returns-in-Flight c =
    rw c.in-Flight.is c.flight.ensures
