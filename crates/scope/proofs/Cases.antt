-- The table of document 01's cases marked P holds, and so do our own and those of requests [1], [2] and [3], each row by computing.
use mathlib.Core.Path.{refl}
use mathlib.Core.List.{[], ◌∷◌}
use lib.Dec.{lit<, lit≤}
use Rattle.scope.specs.Lowest.{seek}
use Rattle.scope.specs.Bits.{bits_of, bits, number_from, bytes_of}
use Rattle.scope.specs.File.{walk_bits, fields_of, zeros, ends_at, walk_file, row_of, packed, file_of}
use Rattle.scope.specs.Row.{walk_from, walk_row}
use Rattle.scope.specs.Plan.{numbers_at, links_at, places_at, after_places, messages_at, after_messages, plan_of}
use Rattle.scope.specs.Good.{has, visited, slots_rise, holds, taken}
use Rattle.scope.specs.Rules.{rules}
use Rattle.scope.specs.Cables.{other_way}
use Rattle.scope.specs.Cuts.{check_cuts, is_cut, cuts_link}
use Rattle.scope.specs.Cycle.{foremost, table_of, moves, slot, numbers, positions, events, arrived, arrivals, event_row}
use Rattle.scope.specs.Verdict.{FirstFailing, earlier}
use Rattle.scope.specs.Spare.{entries_of, entries, has_second_through, lower_through, delay}
use Rattle.scope.specs.Capture.{check_capture}
use Rattle.scope.specs.Game.{breaker, least_from, figure, figures}
use Rattle.scope.specs.Questions.{judge, read_file, write_file, replay, may_judge, figure_of, figures_of, may_explain, may_spare, slack}
use Rattle.scope.specs.Lines.{digits, spaced, parted}
use Rattle.scope.specs.Shelf.{names_of, check_names, rate, unharmed, loss_sum, rated_text, plan_lines, sum_lines, sheet, shelf_text}
use Rattle.scope.specs.Cases.{table, own_table, path_table, shelf_table, cable_table, All, row_a, row_late, row_order, row_both_ways, row_goes_back}
use Rattle.scope.proofs.Explained.{first_of_b}
use Rattle.scope.proofs.First.{every, spared, before_one, before_two}

-- "A: cuts (0,0), (0,2): .. this is the list for k 2, l 1"
first_of_a : FirstFailing (plan_of row_a) 2 1 (0 ∷ 0 ∷ 0 ∷ 2 ∷ [])
unfolding every spared earlier seek is_cut cuts_link other_way foremost table_of moves slot positions arrived arrivals numbers_at links_at
    places_at after_places messages_at after_messages plan_of holds
first_of_a =
    record {
      good = refl;
      few = lit≤ tt;
      answers = lit< tt;
      first = before_two (plan_of row_a) 1 4 4 refl refl (lit≤ tt) 0 0 0 2 refl refl;
    }

first_of_late : FirstFailing (plan_of row_late) 1 2 (2 ∷ 0 ∷ [])
unfolding every spared earlier seek is_cut cuts_link other_way foremost table_of moves slot positions arrived arrivals numbers_at links_at
    places_at after_places messages_at after_messages plan_of holds
first_of_late =
    record {
      good = refl;
      few = lit≤ tt;
      answers = lit< tt;
      first = before_one (plan_of row_late) 2 3 3 refl refl (lit≤ tt) 2 0 refl;
    }

first_of_order : FirstFailing (plan_of row_order) 1 3 (0 ∷ 3 ∷ [])
unfolding every spared earlier seek is_cut cuts_link other_way foremost table_of moves slot positions arrived arrivals numbers_at links_at
    places_at after_places messages_at after_messages plan_of holds
first_of_order =
    record {
      good = refl;
      few = lit≤ tt;
      answers = lit< tt;
      first = before_one (plan_of row_order) 3 4 3 refl refl (lit≤ tt) 0 3 refl;
    }

first_of_both_ways : FirstFailing (plan_of row_both_ways) 1 1 (0 ∷ 0 ∷ [])
unfolding every spared earlier seek is_cut cuts_link other_way foremost table_of moves slot positions arrived arrivals numbers_at links_at
    places_at after_places messages_at after_messages plan_of holds
first_of_both_ways =
    record {
      good = refl;
      few = lit≤ tt;
      answers = lit< tt;
      first = before_one (plan_of row_both_ways) 1 2 2 refl refl (lit≤ tt) 0 0 refl;
    }

first_of_goes_back : FirstFailing (plan_of row_goes_back) 2 1 (0 ∷ 0 ∷ 0 ∷ 1 ∷ [])
unfolding every spared earlier seek is_cut cuts_link other_way foremost table_of moves slot positions arrived arrivals numbers_at links_at
    places_at after_places messages_at after_messages plan_of holds
first_of_goes_back =
    record {
      good = refl;
      few = lit≤ tt;
      answers = lit< tt;
      first = before_two (plan_of row_goes_back) 1 4 4 refl refl (lit≤ tt) 0 0 0 1 refl refl;
    }

pub cases : All table
unfolding seek bits_of bits number_from bytes_of walk_bits fields_of zeros ends_at walk_file row_of packed file_of walk_from walk_row numbers_at
    links_at places_at after_places messages_at after_messages plan_of has visited slots_rise holds taken rules check_cuts is_cut cuts_link other_way
    foremost table_of moves slot numbers positions events arrived arrivals event_row entries_of entries has_second_through lower_through delay judge
    read_file write_file replay may_judge may_spare slack
cases = (
  (refl, refl, refl, refl),
  (
    refl,
    (
      refl,
      (
        refl,
        (
          (refl, refl),
          (
            (refl, refl),
            (
              (refl, refl),
              (
                (refl, refl),
                (
                  (refl, refl),
                  (
                    (refl, refl),
                    (
                      (refl, refl),
                      (
                        (refl, refl),
                        (
                          (refl, refl),
                          (
                            (refl, refl),
                            (
                              (refl, first_of_a),
                              tt,
                            ),
                          ),
                        ),
                      ),
                    ),
                  ),
                ),
              ),
            ),
          ),
        ),
      ),
    ),
  ),
)

pub own_cases : All own_table
unfolding seek bits_of bits number_from bytes_of walk_bits fields_of zeros ends_at walk_file row_of packed file_of walk_from walk_row numbers_at
    links_at places_at after_places messages_at after_messages plan_of has visited slots_rise holds taken rules check_cuts is_cut cuts_link other_way
    foremost table_of moves slot numbers positions events arrived arrivals event_row entries_of entries has_second_through lower_through delay judge
    read_file write_file replay may_judge check_capture may_explain may_spare slack
own_cases = (
  (refl, first_of_late),
  (
    (refl, first_of_order),
    (
      (refl, refl),
      ((refl, refl), (refl, ((refl, refl), ((refl, refl), ((refl, first_of_b), (refl, (refl, (refl, (refl, (refl, (refl, tt))))))))))),
    ),
  ),
)

pub path_cases : All path_table
unfolding seek walk_from walk_row numbers_at links_at places_at after_places messages_at after_messages plan_of has visited slots_rise holds taken
    rules judge
path_cases =
    (refl, (refl, (refl, (refl, (refl, (refl, (refl, (refl, (refl, (refl, (refl, (refl, (refl, (refl, (refl, (refl, (refl, tt)))))))))))))))))

pub shelf_cases : All shelf_table
unfolding seek bits_of bits number_from bytes_of walk_bits fields_of zeros ends_at walk_file row_of walk_from walk_row numbers_at links_at places_at
    after_places messages_at after_messages plan_of has visited slots_rise holds taken rules is_cut cuts_link other_way foremost table_of moves slot
    arrived judge read_file breaker least_from figure figures figure_of figures_of digits spaced parted names_of check_names rate unharmed loss_sum
    rated_text plan_lines sum_lines sheet shelf_text
shelf_cases =
    ((refl, refl), ((refl, refl), ((refl, refl), ((refl, refl), ((refl, refl), ((refl, refl), ((refl, refl), (refl, (refl, (refl, tt))))))))))

pub cable_cases : All cable_table
unfolding seek number_from bytes_of walk_from walk_row numbers_at links_at places_at after_places messages_at after_messages plan_of has visited
    slots_rise holds taken rules check_cuts is_cut cuts_link other_way foremost table_of moves slot numbers positions events arrived arrivals
    event_row entries_of entries has_second_through lower_through delay judge replay may_judge breaker least_from figure figures figures_of may_spare
    slack
cable_cases = (
  (refl, refl),
  (
    (refl, refl),
    (
      (refl, refl),
      ((refl, refl), ((refl, first_of_both_ways), ((refl, refl), ((refl, refl), ((refl, refl), ((refl, first_of_goes_back), tt)))))),
    ),
  ),
)
