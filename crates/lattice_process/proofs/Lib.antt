mod LastLaws
