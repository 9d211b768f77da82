-- In each arm the command is the case that the form is of.
use Rattle.writer.proofs.CommandLaws.{command_written}
use Rattle.writer.proofs.write_command.Goals as goal

pub returns-in-Start : goal.returns-in-Start
returns-in-Start c = command_written _ c.in-Start.is c.write_start.ensures

pub returns-in-Pass : goal.returns-in-Pass
returns-in-Pass c = command_written _ c.in-Pass.is c.write_pass.ensures

pub returns-in-Request : goal.returns-in-Request
returns-in-Request c = command_written _ c.in-Request.is c.write_request.ensures

pub returns-in-Reply : goal.returns-in-Reply
returns-in-Reply c = command_written _ c.in-Reply.is c.write_reply.ensures

pub returns-in-Drop : goal.returns-in-Drop
returns-in-Drop c = command_written _ c.in-Drop.is c.write_drop.ensures

pub returns-in-Read : goal.returns-in-Read
returns-in-Read c = command_written _ c.in-Read.is c.write_read.ensures

pub returns-in-Waiting : goal.returns-in-Waiting
returns-in-Waiting c = command_written _ c.in-Waiting.is c.write_waiting.ensures

pub returns-in-Window : goal.returns-in-Window
returns-in-Window c = command_written _ c.in-Window.is c.write_window.ensures

pub returns-in-Flight : goal.returns-in-Flight
returns-in-Flight c = command_written _ c.in-Flight.is c.write_flight.ensures
