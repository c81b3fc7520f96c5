mod StairLaws
