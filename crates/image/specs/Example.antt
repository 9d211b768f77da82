-- One image to the byte, to hold beside the layout: a keeper under mm with a negative lower edge, two peers that wait, and two flight
-- times.
use Rattle.std.specs.Prelude.{true, List, [], ◌∷◌, ◌++◌, ℕ, pos, negsuc, replicate}
use Rattle.moment.specs.Intervals.{interval}
use Rattle.rules.specs.declared.Rule.TheVariants.{Mm}
use Rattle.keeper.specs.declared.Keeper.{Keeper}

-- Edges -5 and 2; peers 4 and 15 wait, with tags 258 and 7 since ticks 10 and 4294967297; the out time of peer 4 is 1000000000, the back time of
-- peer 15 is 513.
abbrev pub example_keeper : Keeper
example_keeper =
    record {
      started = true;
      board = 3;
      rule = Mm;
      claim = 200;
      edges = interval (negsuc 4) (pos 2);
      ticks = 15;
      requests = 258;
      conflicts = 1;
      waiting = 32784;
      tags = replicate 4 0 ++ (258 ∷ []) ++ replicate 10 0 ++ (7 ∷ []);
      sent_at = replicate 4 0 ++ (10 ∷ []) ++ replicate 10 0 ++ (4294967297 ∷ []);
      out = replicate 4 0 ++ (1000000000 ∷ []) ++ replicate 11 0;
      back = replicate 15 0 ++ (513 ∷ []);
    }

abbrev pub example_image : List ℕ
example_image =
    (2 ∷ 1 ∷ 3 ∷ 1 ∷ [])
    ++ (200 ∷ 0 ∷ 16 ∷ 128 ∷ [])
    ++ (251 ∷ 255 ∷ 255 ∷ 255 ∷ 255 ∷ 255 ∷ 255 ∷ 255 ∷ [])
    ++ (2 ∷ 0 ∷ 0 ∷ 0 ∷ 0 ∷ 0 ∷ 0 ∷ 0 ∷ [])
    ++ (15 ∷ 0 ∷ 0 ∷ 0 ∷ 0 ∷ 0 ∷ 0 ∷ 0 ∷ [])
    ++ (2 ∷ 1 ∷ 0 ∷ 0 ∷ 1 ∷ 0 ∷ 0 ∷ 0 ∷ [])
    ++ replicate 16 0 ++ (2 ∷ 1 ∷ 0 ∷ 0 ∷ []) ++ replicate 40 0 ++ (7 ∷ 0 ∷ 0 ∷ 0 ∷ [])
    ++ replicate 32 0 ++ (10 ∷ 0 ∷ 0 ∷ 0 ∷ 0 ∷ 0 ∷ 0 ∷ 0 ∷ []) ++ replicate 80 0 ++ (1 ∷ 0 ∷ 0 ∷ 0 ∷ 1 ∷ 0 ∷ 0 ∷ 0 ∷ [])
    ++ replicate 16 0 ++ (0 ∷ 202 ∷ 154 ∷ 59 ∷ []) ++ replicate 44 0
    ++ replicate 60 0 ++ (1 ∷ 2 ∷ 0 ∷ 0 ∷ [])
